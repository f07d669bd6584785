-- What is made at the end of a run is its plan, and the limit at which it stops is told of a file that was read.
use Rattle.std.proofs.Common.{◌≡◌, ◌∙◌, sym, ap, subst, ℕ, ◌<◌, ◌^◌, List, [], map, length, Some}
use Rattle.go_tree.specs.declared.spans.Span.{Span}
use Rattle.run_plans.specs.InlinedPrograms.Beginnings.{Beginning}
use Rattle.run_plans.specs.InlinedPrograms.Runs.{DoesNotEnd, RunsToEnd, StopsBefore}
use Rattle.run_plans.specs.declared.inlined_programs.faults.PassedIn.{PassedIn}
use Rattle.run_plans.specs.declared.inlined_programs.faults.StepFault.{StepFault}
use Rattle.run_plans.specs.declared.inlined_programs.faults.StepFault.TheVariants as fault
use Rattle.module_marks.specs.Views.{bad_at_of}
use Rattle.module_texts.specs.declared.modules.ReadModule.{ReadModule}
use Rattle.step_files.specs.Limits.{told}
use Rattle.pkg_graph.specs.Package.{Package}
use Rattle.pkg_graph.specs.Reads.{Source}
use Rattle.run_plans.specs.PlannedFiles.Laws.{ChangesAreThoseOfRuns, HasComeFrom, LimitsAreToldOfReadFiles}
use Rattle.run_plans.specs.PlannedFiles.Limits.{IsReadFile, TellsLimit, path_in}
use Rattle.programs.specs.declared.state.Program.{Program}
use Rattle.read_modules.specs.Modules.{packages_in, texts_in}
use Rattle.refusals.specs.declared.refusal.Refusal.{Refusal}
use Rattle.report_order.specs.Laws.{AreSources, RowsTell}
use Rattle.report_order.specs.declared.rows.ReportRow.{ReportRow}
use Rattle.report_order.specs.declared.text.ReportSource.{ReportSource}
use Rattle.run_rules.specs.Inlining.{IsInlining, IsTooLarge, standing_as_read}
use Rattle.run_rules.specs.Laws.{OneRun}
use Rattle.run_rules.specs.Marks.{bad_of, marks_of}
use Rattle.run_rules.specs.Report.{report_of, step_entry}
use Rattle.run_rules.specs.Run.{Logged, Standing, the_limits, uses_kept}
use Rattle.run_rules.specs.Sites.{MarkRef}
use Rattle.run_rules.specs.Texts.{FileText}
use Rattle.source_files.specs.declared.files.SourceFile.{SourceFile}
use Rattle.stepped_programs.specs.RunReports.Kept.{MayBeTold}
use Rattle.stepped_programs.specs.RunReports.Laws.{ProgramsMayBeTold, ReportsAreOfRuns, paths_of}
use Rattle.stepped_programs.specs.RunReports.Rows.{FindsFiles}
use Rattle.run_plans.specs.PlannedModules.Runs.{AreGoSources, IsLimitOf, IsMadeOf, IsRunFault, IsRunPlan, IsRunStop, StartsRun, beginning_of, told_file}
use Rattle.run_plans.specs.declared.planned_modules.faults.ModuleFault.{ModuleFault}
use Rattle.run_plans.specs.declared.planned_modules.faults.ModuleFault.TheVariants.{Refused, NoMemory}
use Rattle.run_plans.specs.declared.planned_modules.plan.Plan.{Plan}
use Rattle.run_plans.proofs.PlannedModules.GoSources.{are_sources}
use Rattle.run_plans.proofs.PlannedModules.Steps.{counts_alike, few_rows, run_of}

-- a run that doesn't end for a limit stops before it
pub stop_at : (b : Beginning) (e : StepFault) (at : PassedIn) (p : Program) → e ≡ fault.TooLarge at → DoesNotEnd b e p → StopsBefore b at p
stop_at b e at p is h = subst (λ (x : StepFault). DoesNotEnd b x p) is h

module _ (folder : List Source) (files : List SourceFile) (m : ReadModule) (only : List ℕ) (old new : Program) (start : StartsRun folder files m only old) where
  abbrev ps : List (Package Span)
  ps = packages_in m

  abbrev texts : List (List ℕ × FileText)
  texts = texts_in m

  abbrev marks : List MarkRef
  marks = marks_of ps texts only

  abbrev first : Standing
  first = standing_as_read ps texts

  -- ---- the end

  module _ (places : List (List ℕ × ℕ)) (rows : List ReportRow) (e : RunsToEnd (beginning_of folder m only) places rows new) where
    abbrev done : List Logged
    done = e.come.done

    abbrev st : Standing
    st = e.come.standing

    come : HasComeFrom folder files m marks st
    come = record { read = start.read; limits = the_limits; log = done; steps = e.come.stands.on_the_way.reached.steps }

    pub may_be_told : ProgramsMayBeTold → MayBeTold new
    may_be_told law = law folder marks st new e.come.stands.on_the_way.kept.is_program

    module _ (sources : List ReportSource) (found : FindsFiles places sources) where
      rows_told : RowsTell (paths_of sources) rows (map step_entry done)
      rows_told = e.come.tell sources found

      pub rows_few : length rows < 2 ^ 32
      rows_few = few_rows marks folder done first st (paths_of sources) rows e.come.stands.on_the_way.reached.steps rows_told

      module _ (are : AreGoSources files sources) (one : OneRun) (reports : ReportsAreOfRuns) (changed : ChangesAreThoseOfRuns) (plan : Plan) (made : IsMadeOf files sources places new rows plan) (stay : new.bad ≡ old.bad) where
        abbrev said : List ℕ
        said = report_of texts done (uses_kept marks st) (bad_of ps texts ps)

        run : IsInlining the_limits folder ps texts only st.texts said
        run = e.ended.inlined

        same_log : run.log ≡ done
        same_log = (one marks first run.last st run.log done run.run (run_of marks folder [] done first st e.come.stands.on_the_way.reached.steps e.ended.over)).0

        sources_told : AreSources sources texts
        sources_told = are_sources sources m.files.items (are ∙ ap (λ (fs : List SourceFile). map told_file fs) (sym start.read.read.scanned.files_are))

        bad_told : map bad_at_of new.bad.items ≡ bad_of ps texts ps
        bad_told = ap (λ b. map bad_at_of b.items) stay ∙ start.bad_are

        report_is : plan.report ≡ said
        report_is =
            reports folder ps texts only done st new e.come.stands.sources e.counts sources places rows plan.report e.come.stands.on_the_way sources_told found rows_told bad_told made.reported

        pub run_plan : IsRunPlan folder files ps texts only plan
        run_plan =
            record {
              after = st.texts;
              inlining =
                  record {
                    last = run.last;
                    log = run.log;
                    read = run.read;
                    run = run.run;
                    within = run.within;
                    after_is = run.after_is;
                    keeps = run.keeps;
                    reported = report_is ∙ run.reported;
                  };
              steps_are = made.steps_are ∙ counts_alike (paths_of sources) rows done rows_told ∙ ap (λ (ls : List Logged). length ls) (sym same_log);
              writes = made.writes ∙ changed folder files m marks st new come e.come.stands.on_the_way.kept.is_program;
            }

    -- the same of files of the report that are lent twice
    pub planned_by : (list shown again : List ReportSource) → shown ≡ list → again ≡ list → FindsFiles places shown → AreGoSources files list → OneRun → ReportsAreOfRuns → ChangesAreThoseOfRuns → (plan : Plan)
        → IsMadeOf files again places new rows plan → new.bad ≡ old.bad → IsRunPlan folder files ps texts only plan
    planned_by list shown again e1 e2 found are one reports changed plan made stay =
        run_plan shown found (subst (AreGoSources files) (sym e1) are) one reports changed plan
        (subst (λ (s : List ReportSource). IsMadeOf files s places new rows plan) (e2 ∙ sym e1) made) stay

  -- ---- a limit

  module _ (at : PassedIn) (s : StopsBefore (beginning_of folder m only) at new) where
    abbrev too_large : IsTooLarge the_limits folder ps texts only (told at.passed)
    too_large =
        record {
          before = s.standing;
          after = s.stopped.limit.after;
          log = s.done;
          last = s.stopped.limit.step;
          read = s.stopped.stands.on_the_way.reached.read;
          reached = s.stopped.stands.on_the_way.reached.steps;
          next = s.stopped.limit.next;
          passes = s.stopped.limit.passes;
        }

    stopped : HasComeFrom folder files m marks s.standing
    stopped = record { read = start.read; limits = the_limits; log = s.done; steps = s.stopped.stands.on_the_way.reached.steps }

    pub was_read : LimitsAreToldOfReadFiles → IsReadFile files new.packages.items at.home at.file s.stopped.limit.step.file
    was_read law =
        law folder files m marks s.standing s.standing new stopped s.stopped.stands.on_the_way.kept.is_program stopped at.home at.file s.stopped.limit.step.file s.stopped.limit.in_file

    pub run_stop : LimitsAreToldOfReadFiles → (r : Refusal) → ((path : List ℕ) → path_in new.packages.items at.home at.file ≡ Some path → TellsLimit files path at.passed r) → IsRunStop folder files ps texts only r
    run_stop law r tells = record { limit = at.passed; passes = too_large; tells = tells s.stopped.limit.step.file (was_read law).path_is }

    -- it is told so
    pub run_fault : LimitsAreToldOfReadFiles → (e : ModuleFault) → IsLimitOf files new.packages.items at e → IsRunFault folder files ps texts only e
    run_fault law (Refused r) tells = run_stop law r tells
    run_fault law NoMemory tells = tt
