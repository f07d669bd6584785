use Rattle.run_by_steps.proofs.GoesOn.{run_is_at_end}
use Rattle.run_by_steps.proofs.laws.run_ends.Goals as goal

pub returns : goal.returns
returns c = run_is_at_end
