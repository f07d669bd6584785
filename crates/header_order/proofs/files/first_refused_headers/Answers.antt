use Rattle.std.proofs.Common.{[], ◌+◌, ap, arith, drop, get_or, subst, sym}
use Rattle.std.specs.Prelude.{slice_get}
use Rattle.typed_names.proofs.TypeExprs.NewNames.{drop_all, drop_item}
use Rattle.package_blocks.proofs.CollectedLemmas.{item_either}
use Rattle.header_order.specs.Files.{FilesPassed, counts_of, package_counts}
use Rattle.header_order.proofs.CodeLemmas.{passed_all, passed_more, passed_none}
use Rattle.header_order.proofs.files.first_refused_headers.Goals as goal

pub loop-number-init : goal.loop-number-init
loop-number-init c =
    let all = counts_of c.args.packages.now c.args.order.now in
    subst (FilesPassed c.args.marks.now 0 all all [] 0) (sym c.new-firsts.ensures.items)
    (passed_none c.args.marks.now 0 all [] (omega arith))

pub add_package-requires : goal.add_package-requires
add_package-requires c = c.loop-number.invariant.within

pub loop-number-preserved : goal.loop-number-preserved
loop-number-preserved c =
    let marks = c.args.marks.now in
    let packages = c.args.packages.now in
    let order = c.args.order.now in
    let i = c.loop-number.number-index in
    let k = get_or order i 0 in
    let r = subst
    (λ ks. FilesPassed marks 0 (counts_of packages order) ks [] c.loop-number.start c.loop-number.firsts.items)
    (ap (counts_of packages)
    (drop_item order i k c.loop-number-test.true (item_either order i 0 k c.loop-number-test.true)))
    c.loop-number.invariant in
    passed_more marks 0 (counts_of packages order) [] (package_counts (slice_get packages k))
    (counts_of packages (drop (i + 1) order)) c.loop-number.start c.loop-number.firsts.items r c.in_ok-start.start
    c.add_package.new.firsts.items c.in_ok-start.ensures.within c.in_ok-start.ensures.added

pub returns : goal.returns
returns c =
    let order = c.args.order.now in
    λ f. let a = passed_all c.args.marks.now 0 (counts_of c.args.packages.now order) [] c.loop-number.start c.loop-number.firsts.items
    (subst
    (λ ns. FilesPassed c.args.marks.now 0 (counts_of c.args.packages.now order) (counts_of c.args.packages.now ns) [] c.loop-number.start c.loop-number.firsts.items)
    (drop_all order c.loop-number.number-index c.loop-number-test.false) c.loop-number.invariant) in
    (a (omega (arith, f))).1
