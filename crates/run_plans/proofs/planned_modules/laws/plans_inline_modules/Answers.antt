use Rattle.run_plans.proofs.PlannedModules.Inlined.{plans_inline}
use Rattle.run_plans.proofs.planned_modules.laws.plans_inline_modules.Goals as goal

pub returns : goal.returns
returns c = plans_inline c.files_without_dots_hand_on_no_slice.ensures c.constant_programs_stay.ensures.inlined
