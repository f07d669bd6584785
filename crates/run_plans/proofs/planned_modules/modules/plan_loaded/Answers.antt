use Rattle.std.proofs.lemmas.Result.{IfErr-weaker, IfOk-weaker}
use Rattle.run_plans.proofs.PlannedModules.PlansRead.{planned_all, refused_all, refused_mistyped, refused_oversized, starts_some}
use Rattle.run_plans.proofs.planned_modules.modules.plan_loaded.Goals as goal

pub returns-in-Some-clause-refused : goal.returns-in-Some-clause-refused
returns-in-Some-clause-refused c =
    λ m only l. refused_mistyped c.args.files.now c.modules_are_read.ensures c.args.fault c.args.size c.args.program.now m only l c.in-Some.refusal c.in-Some.is

pub returns-then-size-clause-refused : goal.returns-then-size-clause-refused
returns-then-size-clause-refused c =
    λ m only l.
    refused_oversized c.args.files.now c.modules_are_read.ensures c.args.fault c.args.size c.args.program.now m only l c.in_default.is c.too_large.result c.too_large.ensures c.if-size.true

pub plan_run-requires-clause-starts : goal.plan_run-requires-clause-starts
plan_run-requires-clause-starts c =
    let s = c.requires.loaded in
    starts_some c.args.files.now c.modules_are_read.ensures c.args.fault c.args.size c.args.program.now s.read_module s.only s.is c.in_default.is c.if-size.false c.files_without_dots_hand_on_no_slice.ensures
    c.loaded_programs_begin_runs.ensures c.requires.folder

pub returns-clause-planned : goal.returns-clause-planned
returns-clause-planned c =
    IfOk-weaker c.plan_run.result _ _
    (λ plan is m only l.
    planned_all c.args.files.now c.modules_are_read.ensures c.args.fault c.args.size c.args.program.now m only l c.in_default.is c.if-size.false c.files_without_dots_hand_on_no_slice.ensures
    c.loaded_programs_begin_runs.ensures plan is)
    c.plan_run.ensures.planned

pub returns-clause-refused : goal.returns-clause-refused
returns-clause-refused c =
    IfErr-weaker c.plan_run.result _ _
    (λ e is m only l.
    refused_all c.args.files.now c.modules_are_read.ensures c.args.fault c.args.size c.args.program.now m only l c.in_default.is c.if-size.false c.files_without_dots_hand_on_no_slice.ensures
    c.loaded_programs_begin_runs.ensures e is)
    c.plan_run.ensures.refused
