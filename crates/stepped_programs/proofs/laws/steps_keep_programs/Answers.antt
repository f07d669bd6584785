use Rattle.stepped_programs.proofs.Filled.{fill_values}
use Rattle.stepped_programs.proofs.Stepped.{keep_programs}
use Rattle.stepped_programs.proofs.laws.steps_keep_programs.Goals as goal

pub returns-clause-keep : goal.returns-clause-keep
returns-clause-keep c = keep_programs c.constants_stay_marked.ensures c.values_are_told_after_steps.ensures.told

pub returns-clause-values : goal.returns-clause-values
returns-clause-values c = fill_values
