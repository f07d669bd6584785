use Rattle.printed_constants.proofs.PrintedUses.Over.{steps_over}
use Rattle.printed_constants.proofs.printed_uses.laws.printed_steps_are_over.Goals as goal

pub returns : goal.returns
returns c = steps_over
