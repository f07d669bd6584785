use Rattle.run_plans.proofs.PlannedModules.Once.{taken_pass}
use Rattle.run_plans.proofs.planned_modules.laws.taken_modules_pass_limits.Goals as goal

pub returns : goal.returns
returns c = taken_pass c.modules_have_no_refusal.ensures
