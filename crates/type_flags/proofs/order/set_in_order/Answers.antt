use Rattle.std.proofs.Common.{◌∙◌}
use Rattle.type_flags.proofs.order.set_in_order.Goals as goal

pub loop-t-preserved : goal.loop-t-preserved
loop-t-preserved c =
    record {
      count = c.walk.ensures.count ∙ c.loop-t.invariant.count;
      sound = λ s. c.walk.ensures.sound (c.loop-t.invariant.sound s);
    }
