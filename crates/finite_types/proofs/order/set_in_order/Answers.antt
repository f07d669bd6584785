use Rattle.finite_types.proofs.FlagLaws.{kept_on}
use Rattle.finite_types.proofs.order.set_in_order.Goals as goal

pub loop-t-preserved : goal.loop-t-preserved
loop-t-preserved c =
    kept_on c.args.types.now c.args.next.now c.args.flags.now c.loop-t.flags c.walk.new.flags c.loop-t.invariant
    c.walk.ensures.count c.walk.ensures.sound
