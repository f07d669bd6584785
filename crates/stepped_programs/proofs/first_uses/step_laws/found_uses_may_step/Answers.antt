use Rattle.stepped_programs.proofs.FirstUses.FoundFiles.{files_stand, may_step}
use Rattle.stepped_programs.proofs.first_uses.step_laws.found_uses_may_step.Goals as goal

pub returns-clause-stand : goal.returns-clause-stand
returns-clause-stand c = files_stand

pub returns-clause-may : goal.returns-clause-may
returns-clause-may c = may_step c.found_uses_are_steps.ensures.made
