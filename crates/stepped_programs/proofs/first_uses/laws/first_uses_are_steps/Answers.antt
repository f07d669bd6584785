use Rattle.stepped_programs.proofs.FirstUses.Steps.{are_steps, settle}
use Rattle.stepped_programs.proofs.first_uses.laws.first_uses_are_steps.Goals as goal

pub returns-clause-steps : goal.returns-clause-steps
returns-clause-steps c = are_steps c.programs_are_held.ensures c.searches_settle_files.ensures.settled c.searches_find_steps.ensures.steps

pub returns-clause-settled : goal.returns-clause-settled
returns-clause-settled c = settle c.programs_are_held.ensures c.searches_settle_files.ensures.settled
