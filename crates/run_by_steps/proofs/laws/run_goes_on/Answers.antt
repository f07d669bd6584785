use Rattle.run_by_steps.proofs.GoesOn.{step_goes_on, step_passes_limit, step_is_read}
use Rattle.run_by_steps.proofs.laws.run_goes_on.Goals as goal

pub returns-clause-file : goal.returns-clause-file
returns-clause-file c = step_goes_on

pub returns-clause-limit : goal.returns-clause-limit
returns-clause-limit c = step_passes_limit

pub returns-clause-never : goal.returns-clause-never
returns-clause-never c = step_is_read
