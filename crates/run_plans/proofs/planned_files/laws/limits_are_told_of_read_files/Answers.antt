use Rattle.run_plans.proofs.PlannedFiles.Runs.{limits_are_told}
use Rattle.run_plans.proofs.planned_files.laws.limits_are_told_of_read_files.Goals as goal

pub returns : goal.returns
returns c = limits_are_told
