use Rattle.run_by_steps.proofs.StepCounts.Steps.{counts_come, texts_within}
use Rattle.run_by_steps.proofs.step_counts.laws.counts_come.Goals as goal

pub returns-clause-come : goal.returns-clause-come
returns-clause-come c = counts_come

pub returns-clause-texts : goal.returns-clause-texts
returns-clause-texts c = texts_within
