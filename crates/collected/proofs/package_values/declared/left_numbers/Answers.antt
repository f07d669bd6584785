use Rattle.std.proofs.Common.{[], ◌∷◌, ◌++◌, ◌+◌, ◌∙◌, ◌<◌, Bool, add-one, ap, arith, cond, drop, drop-cons, false, length, slice_index_or, sym}
use Rattle.typed_names.proofs.TypeExprs.NewNames.{drop_all, drop_item}
use Rattle.collected.specs.PackageValues.Passes.{left_numbers}
use Rattle.collected.proofs.PackageValues.LeftLemmas.{left_all, left_more}
use Rattle.collected.proofs.package_values.declared.left_numbers.Goals.{then-wrong+in_ok-push, else-wrong}
use Rattle.collected.proofs.package_values.declared.left_numbers.Goals as goal

pub loop-number-init : goal.loop-number-init
loop-number-init c =
    ap (λ xs. xs ++ left_numbers 0 c.args.headers.now c.args.marks.now) (sym c.new-left.ensures.items)

pub loop-number-preserved : goal.loop-number-preserved
loop-number-preserved c =
    let headers = c.args.headers.now in
    let marks = c.args.marks.now in
    let i = c.loop-number.number in
    let item = c.index-headers-number.result in
    let left = c.loop-number.left.items in
    let mark : Bool = slice_index_or marks i false in
    let within : i < length marks = omega (arith, c.requires) in
    left_more headers marks c.requires i item mark left
    (drop_item headers i item c.loop-number-test.true c.index-headers-number.is)
    (drop-cons marks i false within ∙ ap (λ k. mark ∷ drop k marks) (sym (add-one i))) c.loop-number.invariant
    c.is_left-wrong.result (sym c.is_left-wrong.ensures)
    ∙ ap (λ xs. xs ++ left_numbers (i + 1) (drop (i + 1) headers) (drop (i + 1) marks))
    (elim c.if-wrong.branch [
      | then-wrong+in_ok-push w ↦
          ap (λ b. cond b (left ++ i ∷ []) left) w.if-wrong.true
          ∙ sym (ap (λ v. v.items) w.left-is ∙ w.in_ok-push.ensures.items)
      | else-wrong w ↦ ap (λ b. cond b (left ++ i ∷ []) left) w.if-wrong.false ∙ sym (ap (λ v. v.items) w.left-is)
    ])

pub returns : goal.returns
returns c =
    left_all c.args.headers.now c.args.marks.now c.requires c.loop-number.number c.loop-number.left.items
    (drop_all c.args.headers.now c.loop-number.number c.loop-number-test.false) c.loop-number.invariant
