use Rattle.std.proofs.Common.{[], subst, sym, arith}
use Rattle.std.proofs.lemmas.List.{nil_from_length}
use Rattle.jump_rules.specs.UsedLocals.Used.{used_of}
use Rattle.block_walk.specs.Arms.{GivesOpen, innermost_first}
use Rattle.block_walk.specs.Answers.{GivesLeft}
use Rattle.block_walk.proofs.ArmLemmas.{arm_pushed, open_end, open_less}
use Rattle.block_walk.proofs.arms.close_arms.Goals as goal

pub loop-arm-init : goal.loop-arm-init
loop-arm-init c = λ whole total h. h

pub loop-arm-preserved : goal.loop-arm-preserved
loop-arm-preserved c =
    λ whole total h.
    let q = used_of c.loop-arm.used in
    let r = used_of c.close-ends.new.used in
    let x = c.in-Some.arm in
    let xs = c.pop.new.self.items in
    open_less whole total x (innermost_first xs) q r c.loop-arm.ends c.close-ends.result
    (subst (λ ys. GivesOpen whole total ys q c.loop-arm.ends) (arm_pushed [] xs x)
    (subst (λ ys. GivesOpen whole total (innermost_first ys) q c.loop-arm.ends) c.in-Some.ensures.items
    (c.loop-arm.invariant whole total h)))
    (λ w t g. c.close-ends.ensures w t (subst (GivesLeft w t q x.pending) (sym c.both_end.ensures) g))

pub returns : goal.returns
returns c =
    λ whole total h.
    open_end whole total (used_of c.loop-arm.used) c.loop-arm.ends
    (subst (λ xs. GivesOpen whole total (innermost_first xs) (used_of c.loop-arm.used) c.loop-arm.ends)
    (nil_from_length c.loop-arm.stack.items (omega (arith, c.in_default.ensures.cases))) (c.loop-arm.invariant whole total h))
