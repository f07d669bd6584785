use Rattle.run_rules.proofs.EditsApart.{step_edits_apart}
use Rattle.run_rules.proofs.laws.edits_of_steps_stand_apart.Goals as goal

pub returns : goal.returns
returns c = step_edits_apart
