use Rattle.std.proofs.Common.{◌≡◌, [], ◌++◌, ap, subst, rules, arith, length}
use Rattle.std.proofs.lemmas.Grind.{common_steps}
use Rattle.text_edits.specs.Order.{InOrder}
use Rattle.text_edits.specs.Applied.{Within, applied, replaced_from}
use Rattle.text_edits.proofs.Ordered.{ascend_all, keeps_applied}
use Rattle.text_edits.proofs.edits.apply.Goals as goal

pub loop-edit-init : goal.loop-edit-init
loop-edit-init c =
    let text = c.args.text.now in
    let edits = c.deref-edit-items.result.now in
    let inside : c.edits.inside.items.items ≡ edits = cc in
    let view : c.args.edits.now ≡ edits = cc in
    let none : c.new-new.result.items ≡ [] = c.new-new.ensures.items in
    record {
      ascend = ascend_all (length text) edits (subst InOrder inside c.edits.invariant) (subst (Within (length text)) view c.requires);
      made = ap (λ xs. xs ++ replaced_from text 0 edits) none;
    }

pub returns-clause-keeps : goal.returns-clause-keeps
returns-clause-keeps c =
    let text = c.args.text.now in
    let view : c.edits.inside.items.items ≡ c.args.edits.now = cc in
    let made : c.extend_from_slice-2.new.self.items ≡ applied text c.args.edits.now = first_of (search rules, grind (arith, common_steps)) in
    keeps_applied text c.extend_from_slice-2.new.self.items c.args.edits.now (ascend_all (length text) c.args.edits.now (subst InOrder view c.edits.invariant) c.requires) made
