use Rattle.std.proofs.Common.{subst, ℕ, List, IfOk, IfErr}
use Rattle.pkg_graph.specs.Reads.{Source}
use Rattle.run_plans.specs.PlannedModules.Folders.{AreOfFolder}
use Rattle.run_plans.specs.PlannedModules.Planned.{IsModulePlan}
use Rattle.run_plans.specs.PlannedModules.Unplanned.{IsModuleFault}
use Rattle.run_plans.specs.declared.planned_modules.plan.Plan.{Plan}
use Rattle.run_plans.proofs.planned_modules.modules.plan_module.Goals as goal

pub returns-in-Ok-clause-planned : goal.returns-in-Ok-clause-planned
returns-in-Ok-clause-planned c =
    let files = c.args.files.now in
    subst (λ (only : List ℕ). IfOk c.plan_read.result (λ (p : Plan). (folder : List Source) → AreOfFolder folder files → IsModulePlan folder files only p)) c.as_bytes.ensures.value
    c.plan_read.ensures.planned

pub returns-in-Ok-clause-refused : goal.returns-in-Ok-clause-refused
returns-in-Ok-clause-refused c =
    subst (λ (only : List ℕ). IfErr c.plan_read.result (IsModuleFault c.args.files.now only)) c.as_bytes.ensures.value c.plan_read.ensures.refused

pub returns-clause-refused : goal.returns-clause-refused
returns-clause-refused c = c.no_module.ensures c.args.only.now
