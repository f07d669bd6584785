use Rattle.stepped_programs.proofs.FirstUses.FoundFiles.{go_on, pass_limits, are_read}
use Rattle.stepped_programs.proofs.first_uses.step_laws.use_steps_go_on.Goals as goal

pub returns-clause-file : goal.returns-clause-file
returns-clause-file c = go_on c.found_uses_may_step.ensures.stand c.steps_go_on.ensures.file

pub returns-clause-limit : goal.returns-clause-limit
returns-clause-limit c = pass_limits c.found_uses_may_step.ensures.stand c.steps_go_on.ensures.limit

pub returns-clause-never : goal.returns-clause-never
returns-clause-never c = are_read c.found_uses_may_step.ensures.stand c.steps_go_on.ensures.never
