use Rattle.run_plans.proofs.PlannedModules.Named.{refusals_name}
use Rattle.run_plans.proofs.planned_modules.laws.refusals_name_files.Goals as goal

pub returns : goal.returns
returns c = refusals_name
