use Rattle.std.proofs.Common.{subst, Option}
use Rattle.std.proofs.lemmas.Option.{none-some}
use Rattle.report_order.specs.declared.rows.ReportRow.{ReportRow}
use Rattle.run_plans.specs.InlinedPrograms.Runs.{TakesStep}
use Rattle.run_plans.proofs.InlinedPrograms.WholeRuns.{none_made, step_made, fewer_left, all_made, stopped}
use Rattle.run_plans.proofs.inlined_programs.runs.inline_all.Goals as goal

pub steps-init : goal.steps-init
steps-init c =
    record {
      goes =
          none_made c.args.files.now c.args.program.now c.new-counts.result c.new-rows.result.items c.requires c.new-counts.ensures.steps c.new-counts.ensures.origins c.new-rows.ensures.items;
      held = λ h home e f. absurd (none-some h e);
    }

pub steps-smaller : goal.steps-smaller
steps-smaller c =
    fewer_left c.args.files.now c.args.program.now c.steps.program c.step.new.program c.steps.counts c.step.new.counts c.steps.rows.items c.in-Ok-Some.row c.steps.invariant.goes
    (subst (λ (r : Option ReportRow). TakesStep c.steps.program c.steps.counts c.args.files.now r c.step.new.program c.step.new.counts) c.in-Ok-Some.field-0-is c.in-Ok-Some.ensures.taken)

pub steps-preserved : goal.steps-preserved
steps-preserved c =
    record {
      goes =
          step_made c.args.files.now c.args.program.now c.steps.program c.step.new.program c.steps.counts c.step.new.counts c.steps.rows.items c.push.new.self.items c.in-Ok-Some.row c.steps.invariant.goes
          (subst (λ (r : Option ReportRow). TakesStep c.steps.program c.steps.counts c.args.files.now r c.step.new.program c.step.new.counts) c.in-Ok-Some.field-0-is c.in-Ok-Some.ensures.taken)
          c.in-Ok-Some.ensures.bad c.in-Ok.ensures.items;
      held = c.in-Ok-Some.ensures.held;
    }

pub returns-in-Ok-None-clause-inlined : goal.returns-in-Ok-None-clause-inlined
returns-in-Ok-None-clause-inlined c =
    all_made c.args.files.now c.args.program.now c.steps.program c.step.new.program c.steps.counts c.step.new.counts c.steps.rows.items c.steps.invariant.goes
    (subst (λ (r : Option ReportRow). TakesStep c.steps.program c.steps.counts c.args.files.now r c.step.new.program c.step.new.counts) c.in-Ok-None.field-0-is c.in-Ok-None.ensures.taken)

pub returns-in-Err-clause-refused : goal.returns-in-Err-clause-refused
returns-in-Err-clause-refused c =
    stopped c.args.files.now c.args.program.now c.steps.program c.step.new.program c.steps.counts c.step.new.counts c.steps.rows.items c.in-Err.fault c.steps.invariant.goes c.in-Err.ensures.refused
