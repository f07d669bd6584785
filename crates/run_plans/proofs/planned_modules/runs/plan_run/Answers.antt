use Rattle.std.proofs.Common.{sym, subst, ℕ, List}
use Rattle.run_plans.specs.declared.inlined_programs.faults.PassedIn.{PassedIn}
use Rattle.run_plans.specs.PlannedFiles.Limits.{IsReadFile}
use Rattle.run_plans.specs.PlannedModules.Runs.{AreGoSources, IsLimitOf, beginning_of}
use Rattle.run_plans.proofs.PlannedModules.GoSources.{sources_small}
use Rattle.run_plans.proofs.PlannedModules.RunPlans.{may_be_told, planned_by, rows_few, run_fault, stop_at, was_read}
use Rattle.run_plans.proofs.planned_modules.runs.plan_run.Goals as goal
use Rattle.run_plans.proofs.planned_modules.runs.plan_run.Goals.{in-Ok+in-Ok-make_plan, in-Ok+in-Err, in-Err-TooLarge, in-Err-NoMemory}

pub inline_all-requires : goal.inline_all-requires
inline_all-requires c = let s = c.requires.starts in (beginning_of s.folder s.read_module s.only, s.starts.begins)

pub make_plan-requires-clause-small : goal.make_plan-requires-clause-small
make_plan-requires-clause-small c =
    sources_small c.args.files.now c.deref-in-Ok.result.now c.requires.small (subst (AreGoSources c.args.files.now) (sym c.deref-in-Ok.ensures.value) c.in_ok-sources.ensures)

pub make_plan-requires-clause-told : goal.make_plan-requires-clause-told
make_plan-requires-clause-told c =
    let s = c.requires.starts in
    may_be_told s.folder c.args.files.now s.read_module s.only c.args.program.now c.inline_all.new.program s.starts c.in_ok-places.places c.in-Ok.rows.items
    (c.in-Ok.ensures.inlined (beginning_of s.folder s.read_module s.only) s.starts.begins) c.kept_rows_tell.ensures.may

pub make_plan-requires-clause-few : goal.make_plan-requires-clause-few
make_plan-requires-clause-few c =
    let s = c.requires.starts in
    rows_few s.folder c.args.files.now s.read_module s.only c.args.program.now c.inline_all.new.program s.starts c.in_ok-places.places c.in-Ok.rows.items
    (c.in-Ok.ensures.inlined (beginning_of s.folder s.read_module s.only) s.starts.begins) c.deref.result.now c.in_ok-places.ensures

pub limit_fault-requires : goal.limit_fault-requires
limit_fault-requires c =
    let s = c.requires.starts in
    let files = c.args.files.now in
    let at = c.in-Err-TooLarge.at in
    let last = c.inline_all.new.program in
    let b = beginning_of s.folder s.read_module s.only in
    let stop = stop_at b c.in-Err-TooLarge.field-0 at last c.in-Err-TooLarge.field-0-is (c.in-Err-TooLarge.ensures.refused b s.starts.begins) in
    let was : IsReadFile files last.packages.items at.home at.file stop.stopped.limit.step.file =
    was_read s.folder files s.read_module s.only c.args.program.now last s.starts at stop c.limits_are_told_of_read_files.ensures in
    subst (λ (x : PassedIn). (path : List ℕ) × IsReadFile files last.packages.items x.home x.file path) (sym c.in-Err-TooLarge.at-is) (stop.stopped.limit.step.file, was)

pub returns-clause-planned : goal.returns-clause-planned
returns-clause-planned c =
    elim c.match-inline_all.branch [
      | in-Ok+in-Ok-make_plan w ↦
          rw w.planned-is
          (λ folder m only start.
          planned_by folder c.args.files.now m only c.args.program.now c.inline_all.new.program start c.in_ok-places.places w.in-Ok.rows.items (w.in-Ok.ensures.inlined (beginning_of folder m only) start.begins)
          c.in_ok-sources.sources.items c.deref.result.now w.deref-in-Ok.result.now c.deref.ensures.value w.deref-in-Ok.ensures.value c.in_ok-places.ensures c.in_ok-sources.ensures
          c.programs_have_one_run.ensures.run c.reports_are_of_runs.ensures c.last_texts_are_those_of_runs.ensures.changes w.in-Ok-make_plan.plan w.in-Ok-make_plan.ensures w.in-Ok.ensures.bad)
      | in-Ok+in-Err w ↦ rw w.planned-is tt
      | in-Err-TooLarge w ↦ rw w.planned-is tt
      | in-Err-NoMemory w ↦ rw w.planned-is tt
    ]

pub returns-clause-refused : goal.returns-clause-refused
returns-clause-refused c =
    elim c.match-inline_all.branch [
      | in-Ok+in-Ok-make_plan w ↦ rw w.planned-is tt
      | in-Ok+in-Err w ↦ rw w.planned-is (λ folder m only start. tt)
      | in-Err-TooLarge w ↦
          rw w.planned-is
          (λ folder m only start.
          let at = w.in-Err-TooLarge.at in
          let last = c.inline_all.new.program in
          let b = beginning_of folder m only in
          let stop = stop_at b w.in-Err-TooLarge.field-0 at last w.in-Err-TooLarge.field-0-is (w.in-Err-TooLarge.ensures.refused b start.begins) in
          let told : IsLimitOf c.args.files.now last.packages.items at w.limit_fault.result =
          subst (λ (x : PassedIn). IsLimitOf c.args.files.now last.packages.items x w.limit_fault.result) w.in-Err-TooLarge.at-is w.limit_fault.ensures in
          run_fault folder c.args.files.now m only c.args.program.now last start at stop c.limits_are_told_of_read_files.ensures w.limit_fault.result told)
      | in-Err-NoMemory w ↦ rw w.planned-is (λ folder m only start. tt)
    ]
