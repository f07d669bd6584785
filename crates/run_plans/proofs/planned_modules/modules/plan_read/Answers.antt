use Rattle.std.proofs.Common.{◌∙◌, ◌<◌, ◌^◌, sym, ap, subst, is_some, List, length}
use Rattle.literal_tables.specs.HasTypes.{HasTypes}
use Rattle.package_blocks.specs.Imports.{views}
use Rattle.pkg_graph.specs.declared.packages.Package.{Package}
use Rattle.run_rules.specs.Programs.{world}
use Rattle.run_plans.proofs.PlannedModules.TypingFaults.{are_ordered, are_spelled}
use Rattle.std.proofs.lemmas.Result.{err_from_is_err_and, IfErr-weaker, IfOk-weaker}
use Rattle.run_plans.proofs.PlannedModules.PlansRead.{loaded_of, refused_unmarked}
use Rattle.run_plans.proofs.planned_modules.modules.plan_read.Goals as goal

pub declared_types-requires-clause-few : goal.declared_types-requires-clause-few
declared_types-requires-clause-few c =
    subst (λ (ps : List Package). length ps < 2 ^ 32) (sym c.packages.ensures)
    (c.modules_may_be_loaded.ensures c.args.files.now c.args.read c.requires.read c.requires.count).0

pub declared_types-requires-clause-order : goal.declared_types-requires-clause-order
declared_types-requires-clause-order c =
    are_ordered c.args.files.now c.args.read c.requires.read c.packages.result.now c.order.result.now c.packages.ensures c.order.ensures

pub declared_types-requires-clause-spelled : goal.declared_types-requires-clause-spelled
declared_types-requires-clause-spelled c =
    are_spelled c.read_values_are_spelled.ensures.packages c.args.files.now c.args.read c.requires.read c.packages.result.now c.packages.ensures

pub load_program-requires-clause-few : goal.load_program-requires-clause-few
load_program-requires-clause-few c = (c.modules_may_be_loaded.ensures c.args.files.now c.args.read c.requires.read c.requires.count).0

pub load_program-requires-clause-scanned : goal.load_program-requires-clause-scanned
load_program-requires-clause-scanned c = (c.modules_may_be_loaded.ensures c.args.files.now c.args.read c.requires.read c.requires.count).1

pub returns-in-Ok-None-clause-refused : goal.returns-in-Ok-None-clause-refused
returns-in-Ok-None-clause-refused c =
    refused_unmarked c.args.files.now c.args.read c.requires.read c.args.only.now c.modules_are_read.ensures c.not_built.result c.not_built.ensures
    (ap is_some (sym c.in-Ok-None.field-0-is) ∙ c.in-Ok-None.ensures.constants)

pub plan_loaded-plan-requires-clause-loaded : goal.plan_loaded-plan-requires-clause-loaded
plan_loaded-plan-requires-clause-loaded c =
    record {
      read_module = c.args.read;
      only = c.args.only.now;
      is =
          loaded_of c.args.files.now c.args.read c.requires.read c.args.only.now c.modules_are_read.ensures c.in_ok-fault.fault c.in_ok-fault.ensures.typing c.total_bytes-size.result c.total_bytes-size.ensures
          c.within_limit.result c.within_limit.ensures c.in_ok-fault.ensures.formed c.in-Ok-Some.field-0 c.in-Ok-Some.program c.in-Ok-Some.field-0-is c.in_ok-types.types (subst (λ (cs : List Package). HasTypes (world (views cs)) c.in_ok-types.types) c.packages.ensures c.in_ok-types.ensures) c.in-Ok-Some.ensures.types c.in-Ok-Some.ensures.constants c.in-Ok-Some.ensures.loaded;
    }

pub returns-in-Ok-Some-clause-planned : goal.returns-in-Ok-Some-clause-planned
returns-in-Ok-Some-clause-planned c =
    IfOk-weaker c.plan_loaded-plan.result _ _
    (λ plan is.
    is c.args.read c.args.only.now
    (loaded_of c.args.files.now c.args.read c.requires.read c.args.only.now c.modules_are_read.ensures c.in_ok-fault.fault c.in_ok-fault.ensures.typing c.total_bytes-size.result c.total_bytes-size.ensures
    c.within_limit.result c.within_limit.ensures c.in_ok-fault.ensures.formed c.in-Ok-Some.field-0 c.in-Ok-Some.program c.in-Ok-Some.field-0-is c.in_ok-types.types (subst (λ (cs : List Package). HasTypes (world (views cs)) c.in_ok-types.types) c.packages.ensures c.in_ok-types.ensures) c.in-Ok-Some.ensures.types c.in-Ok-Some.ensures.constants c.in-Ok-Some.ensures.loaded))
    c.plan_loaded-plan.ensures.planned

pub returns-in-Ok-Some-clause-refused : goal.returns-in-Ok-Some-clause-refused
returns-in-Ok-Some-clause-refused c =
    IfErr-weaker c.plan_loaded-plan.result _ _
    (λ e is.
    is c.args.read c.args.only.now
    (loaded_of c.args.files.now c.args.read c.requires.read c.args.only.now c.modules_are_read.ensures c.in_ok-fault.fault c.in_ok-fault.ensures.typing c.total_bytes-size.result c.total_bytes-size.ensures
    c.within_limit.result c.within_limit.ensures c.in_ok-fault.ensures.formed c.in-Ok-Some.field-0 c.in-Ok-Some.program c.in-Ok-Some.field-0-is c.in_ok-types.types (subst (λ (cs : List Package). HasTypes (world (views cs)) c.in_ok-types.types) c.packages.ensures c.in_ok-types.ensures) c.in-Ok-Some.ensures.types c.in-Ok-Some.ensures.constants c.in-Ok-Some.ensures.loaded))
    c.plan_loaded-plan.ensures.refused

pub returns-in_err-fault-clause-refused : goal.returns-in_err-fault-clause-refused
returns-in_err-fault-clause-refused c =
    let p = err_from_is_err_and c.from_residual-in_err-fault.result c.from_residual-in_err-fault.ensures.1 in
    rw (p.1, p.2) (c.in_err-fault.ensures.refused c.args.only.now)

pub returns-in_err-types-clause-refused : goal.returns-in_err-types-clause-refused
returns-in_err-types-clause-refused c =
    let p = err_from_is_err_and c.from_residual.result c.from_residual.ensures.1 in
    rw (p.1, p.2) tt
