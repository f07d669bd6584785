use Rattle.std.proofs.Common.{[], ◌∷◌, ◌++◌, ◌+◌, ◌∙◌, ap, cond, drop, subst, sym}
use Rattle.typed_names.proofs.TypeExprs.NewNames.{drop_all, drop_item}
use Rattle.package_blocks.specs.FuncHeaders.Steps.{FunctionsPassed}
use Rattle.package_blocks.proofs.FuncHeaders.Passed.{passed_all, passed_more, passed_none}
use Rattle.package_blocks.proofs.func_headers.headers.declare_functions.Goals.{then-not-well+in_ok-push, else-not-well}
use Rattle.package_blocks.proofs.func_headers.headers.declare_functions.Goals as goal

pub loop-number-init : goal.loop-number-init
loop-number-init c =
    let e = c.args.types.now in
    let bs = c.args.blocks.now in
    subst (FunctionsPassed c.args.packages.now c.args.files.now c.args.headers.now 0 e e bs bs c.args.flags.now)
    (sym c.new-refused.ensures.items)
    (passed_none c.args.packages.now c.args.files.now c.args.headers.now e bs c.args.flags.now c.requires.known
    c.requires.flags c.requires.defined)

pub loop-number-preserved : goal.loop-number-preserved
loop-number-preserved c =
    let headers = c.args.headers.now in
    let i = c.loop-number.number in
    let item = c.index-headers-number.result in
    let refused = c.loop-number.refused.items in
    let well = c.in_ok-well.well in
    let more = passed_more c.args.packages.now c.args.files.now headers c.args.types.now c.args.blocks.now i
    c.loop-number.types c.declare_header.new.types c.loop-number.blocks c.declare_header.new.blocks c.loop-number.flags
    c.declare_header.new.flags refused c.loop-number.invariant item (drop (i + 1) headers)
    (drop_item headers i item c.loop-number-test.true c.index-headers-number.is) c.declare_header.ensures.grown
    c.declare_header.ensures.values c.declare_header.ensures.known c.declare_header.ensures.flags c.declare_header.ensures.defined
    c.declare_header.ensures.count well c.in_ok-well.ensures.set in
    subst
    (FunctionsPassed c.args.packages.now c.args.files.now headers (i + 1) c.args.types.now c.declare_header.new.types
    c.args.blocks.now c.declare_header.new.blocks c.declare_header.new.flags)
    (elim c.if-not-well.branch [
      | then-not-well+in_ok-push w ↦
          ap (λ b. cond b refused (refused ++ i ∷ [])) w.if-not-well.true
          ∙ sym (ap (λ v. v.items) w.refused-is ∙ w.in_ok-push.ensures.items)
      | else-not-well w ↦
          ap (λ b. cond b refused (refused ++ i ∷ [])) w.if-not-well.false ∙ sym (ap (λ v. v.items) w.refused-is)
    ])
    more

pub returns-clause-found : goal.returns-clause-found
returns-clause-found c =
    passed_all c.args.packages.now c.args.files.now c.args.headers.now c.args.types.now c.args.blocks.now
    c.loop-number.number c.loop-number.types c.loop-number.blocks c.loop-number.flags c.loop-number.refused.items
    c.loop-number.invariant (drop_all c.args.headers.now c.loop-number.number c.loop-number-test.false)
