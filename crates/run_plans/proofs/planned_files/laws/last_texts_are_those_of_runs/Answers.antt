use Rattle.run_plans.proofs.PlannedFiles.Runs.{changes_are_those, last_texts_are}
use Rattle.run_plans.proofs.planned_files.laws.last_texts_are_those_of_runs.Goals as goal

pub returns-clause-texts : goal.returns-clause-texts
returns-clause-texts c = last_texts_are

pub returns-clause-changes : goal.returns-clause-changes
returns-clause-changes c = changes_are_those
