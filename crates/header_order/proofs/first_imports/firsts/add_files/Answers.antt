use Rattle.std.proofs.Common.{◌≡◌, ◌∙◌, ◌++◌, ◌+◌, ap, arith, drop, length, subst, sym}
use Rattle.std.specs.Prelude.{slice_get}
use Rattle.typed_names.proofs.TypeExprs.NewNames.{drop_all, drop_item}
use Rattle.header_order.specs.FirstImports.Firsts.{FirstWith, Passed, tagged}
use Rattle.header_order.proofs.FirstImports.Passing.{passed_one}
use Rattle.header_order.proofs.first_imports.firsts.add_files.Goals as goal

pub loop-file-init : goal.loop-file-init
loop-file-init c = λ all left p. p

pub loop-file-preserved : goal.loop-file-preserved
loop-file-preserved c =
    λ all left p.
    let packages = c.args.packages.now in
    let blocks = c.args.blocks.now in
    let used = c.args.used.now in
    let home = c.args.home in
    let files = c.args.files.now in
    let i = c.loop-file.file-index in
    let item = c.file-item.result in
    let firsts = c.loop-file.firsts in
    let e : firsts.len ≡ length firsts.items = omega arith in
    passed_one packages blocks used all (tagged home (drop (i + 1) files) ++ left) home item.tree firsts.items
    c.push.new.self.items c.in_ok-first.first
    (subst (λ fs. Passed packages blocks used all (tagged home fs ++ left) firsts.items)
    (drop_item files i item c.loop-file-test.true c.file-item.is) (c.loop-file.invariant all left p))
    (subst (λ n. FirstWith packages blocks home item.tree (slice_get used n) c.in_ok-first.first)
    (c.len-number.ensures ∙ e) c.in_ok-first.ensures)
    c.in_ok-push.ensures.items

pub returns : goal.returns
returns c =
    λ all left p.
    subst
    (λ fs. Passed c.args.packages.now c.args.blocks.now c.args.used.now all (tagged c.args.home fs ++ left) c.loop-file.firsts.items)
    (drop_all c.args.files.now c.loop-file.file-index c.loop-file-test.false) (c.loop-file.invariant all left p)
