use Rattle.run_by_steps.proofs.StepCounts.Steps.{none_are_counted, steps_are_counted, origins_within}
use Rattle.run_by_steps.proofs.step_counts.laws.steps_are_counted.Goals as goal

pub returns-clause-none : goal.returns-clause-none
returns-clause-none c = none_are_counted

pub returns-clause-step : goal.returns-clause-step
returns-clause-step c = steps_are_counted

pub returns-clause-within : goal.returns-clause-within
returns-clause-within c = origins_within
