use Rattle.std.proofs.Common.{◌≡◌, refl, subst, rules, arith}
use Rattle.std.proofs.lemmas.Grind.{common_steps}
use Rattle.std.specs.List.{insert}
use Rattle.text_edits.specs.Order.{IsFree}
use Rattle.text_edits.specs.Applied.{Within}
use Rattle.text_edits.proofs.Ordered.{free_of_order, within_insert}
use Rattle.text_edits.proofs.edits.Edits.add.Goals as goal

pub returns-in_err-insert-clause-cause : goal.returns-in_err-insert-clause-cause
returns-in_err-insert-clause-cause c =
    let view : c.deref.result.now ≡ c.args.self.now = cc in
    let free : IsFree c.args.e.span c.args.self.now =
    subst (IsFree c.args.e.span) view (free_of_order c.deref.result.now c.in-Ok.place c.args.e (c.in-Ok.ensures.place.1 c.args.e refl)) in
    first_of (search rules, grind (arith, common_steps))

pub returns-clause-free : goal.returns-clause-free
returns-clause-free c =
    let view : c.deref.result.now ≡ c.args.self.now = cc in
    subst (IsFree c.args.e.span) view (free_of_order c.deref.result.now c.in-Ok.place c.args.e (c.in-Ok.ensures.place.1 c.args.e refl))

pub returns-clause-within : goal.returns-clause-within
returns-clause-within c size fits w =
    let made : insert c.args.self.now c.in-Ok.place c.args.e ≡ c.insert.new.self.items = cc c.in_ok-insert.ensures.items in
    subst (Within size) made (within_insert size c.args.self.now c.in-Ok.place c.args.e fits w)
