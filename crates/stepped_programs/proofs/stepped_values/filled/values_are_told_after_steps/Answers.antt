use Rattle.stepped_programs.proofs.SteppedValues.Steps.{told_after, stay_elsewhere}
use Rattle.stepped_programs.proofs.stepped_values.filled.values_are_told_after_steps.Goals as goal

pub returns-clause-told : goal.returns-clause-told
returns-clause-told c = told_after

pub returns-clause-elsewhere : goal.returns-clause-elsewhere
returns-clause-elsewhere c = stay_elsewhere
