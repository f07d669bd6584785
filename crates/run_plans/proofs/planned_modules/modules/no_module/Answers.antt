use Rattle.run_plans.specs.PlannedModules.Unplanned.{no_module}
use Rattle.run_plans.proofs.planned_modules.modules.no_module.Goals as goal

pub returns-in-Ok-Some : goal.returns-in-Ok-Some
returns-in-Ok-Some c = λ only folder o. no_module c.in-Ok-Some.refusal (rw c.in-Ok-Some.field-0-is at c.in-Ok-Some.ensures.found)
