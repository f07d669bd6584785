use Rattle.std.proofs.Common.{◌∷◌, ◌∙◌, ◌<◌, Bool, add-one, ap, arith, drop, drop-cons, false, length, slice_index_or, sym, true}
use Rattle.typed_names.proofs.TypeExprs.NewNames.{drop_all, drop_item}
use Rattle.collected.proofs.PackageValues.MarkLemmas.{marked_all, marked_more}
use Rattle.collected.proofs.package_values.refusing.all_found.Goals as goal

pub returns-then-is_missing : goal.returns-then-is_missing
returns-then-is_missing c =
    let singles = c.args.singles.now in
    let marks = c.args.found.now in
    let i = c.loop-number.number in
    let item = c.index-singles-number.result in
    let mark : Bool = slice_index_or marks i false in
    let within : i < length marks = omega (arith, c.requires) in
    sym
    (marked_more singles marks i item mark
    (drop_item singles i item c.loop-number-test.true c.index-singles-number.is)
    (drop-cons marks i false within ∙ ap (λ k. mark ∷ drop k marks) (sym (add-one i))) c.loop-number.invariant true
    (sym c.is_missing.ensures ∙ c.if-is_missing.true))

pub loop-number-preserved : goal.loop-number-preserved
loop-number-preserved c =
    let singles = c.args.singles.now in
    let marks = c.args.found.now in
    let i = c.loop-number.number in
    let item = c.index-singles-number.result in
    let mark : Bool = slice_index_or marks i false in
    let within : i < length marks = omega (arith, c.requires) in
    marked_more singles marks i item mark
    (drop_item singles i item c.loop-number-test.true c.index-singles-number.is)
    (drop-cons marks i false within ∙ ap (λ k. mark ∷ drop k marks) (sym (add-one i))) c.loop-number.invariant false
    (sym c.is_missing.ensures ∙ c.if-is_missing.false)

pub returns : goal.returns
returns c =
    sym
    (marked_all c.args.singles.now c.args.found.now c.loop-number.number
    (drop_all c.args.singles.now c.loop-number.number c.loop-number-test.false) c.loop-number.invariant)
