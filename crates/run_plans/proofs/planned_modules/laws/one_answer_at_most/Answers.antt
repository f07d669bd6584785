use Rattle.run_plans.proofs.PlannedModules.Once.{never_both, plans_are_one, refusals_are_alike}
use Rattle.run_plans.proofs.planned_modules.laws.one_answer_at_most.Goals as goal

pub returns : goal.returns
returns c = record {
  plans = plans_are_one c.programs_have_one_run.ensures.inlining;
  refusals = refusals_are_alike c.one_refusal_at_most.ensures c.modules_have_no_refusal.ensures;
  either = never_both c.modules_have_no_refusal.ensures c.programs_have_one_run.ensures.apart;
}
