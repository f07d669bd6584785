use Rattle.std.proofs.Common.{length, arith}
use Rattle.unit_tests.proofs.edits.edited.Goals as goal

pub loop-start-preserved : goal.loop-start-preserved
loop-start-preserved c = c.add.ensures.within (length c.args.text.now) (omega (arith, c.in_ok-edit.ensures.1)) c.loop-start.invariant
