-- What a run makes of a program: its next step, its end, and the limit before which it stops (golang.org/x/tools,
-- analyzer inline and internal/refactor/inline, for what a run is and what is reported; the limits are this project's
-- own).
use Rattle.std.specs.Prelude.{◌≡◌, ⊤, ℕ, List, [], ◌∷◌, ◌++◌, map, Option, Some, None}
use Rattle.step_files.specs.Limits.{told}
use Rattle.programs.specs.declared.state.Program.{Program}
use Rattle.report_order.specs.Laws.{Tells, RowsTell}
use Rattle.report_order.specs.declared.rows.ReportRow.{ReportRow}
use Rattle.report_order.specs.declared.text.ReportSource.{ReportSource}
use Rattle.stepped_programs.specs.RunReports.Laws.{paths_of}
use Rattle.stepped_programs.specs.RunReports.Rows.{FindsFiles}
use Rattle.run_rules.specs.Inlining.{IsInlining}
use Rattle.run_rules.specs.Marks.{bad_of}
use Rattle.run_rules.specs.Report.{step_entry, report_of}
use Rattle.run_rules.specs.Run.{Standing, Logged, Next, TooLarge, path_of_file, passed, step_in, the_limits, uses_kept}
use Rattle.run_by_steps.specs.declared.step_counts.counts.StepCounts.{StepCounts}
use Rattle.run_plans.specs.declared.inlined_programs.faults.PassedIn.{PassedIn}
use Rattle.run_plans.specs.declared.inlined_programs.faults.StepFault.{StepFault}
use Rattle.run_plans.specs.declared.inlined_programs.faults.StepFault.TheVariants as fault
use Rattle.run_plans.specs.InlinedPrograms.Beginnings.{Beginning, marks_in, StandsAfter}

-- a run that has come to this program by these steps
module _ (b : Beginning) (done : List Logged) (st : Standing) where
  -- Its next step is made; the row tells of it, where each file of a report is found by its path.
  pub record HasMadeStep (places : List (List ℕ × ℕ)) (row : ReportRow) (p : Program) (c : StepCounts)
      : Type 0 where
    pub step : Logged
    pub after : Standing
    pub stands : StandsAfter b (done ++ step ∷ []) after p c
    pub tells : (files : List ReportSource) → FindsFiles places files → Tells (paths_of files) row (step_entry step)

  -- No use is free, so no step is left: the texts are those of the inlined module, with the report of these steps.
  pub record StandsAtEnd (p : Program) (c : StepCounts) : Type 0 where
    pub stands : StandsAfter b done st p c
    pub over : step_in (marks_in b) st ≡ None
    pub inlined :
        IsInlining the_limits b.files b.packages b.texts b.only st.texts
        (report_of b.texts done (uses_kept (marks_in b) st) (bad_of b.packages b.texts b.packages))

  -- a step with its row, or the end
  abbrev pub GoesOn : List (List ℕ × ℕ) → Option ReportRow → Program → StepCounts → Type 0
  GoesOn places None p c = StandsAtEnd p c
  GoesOn places (Some row) p c = HasMadeStep places row p c

  -- The next step passes this limit first, in the file with these numbers of its package and its own.
  pub record PassesLimit (home file : ℕ) (limit : TooLarge) : Type 0 where
    pub step : Logged
    pub after : Standing
    pub next : Next (marks_in b) st step after
    pub passes : passed the_limits b.files done step next.new after.texts ≡ Some limit
    pub in_file : path_of_file st.packages home file ≡ Some step.file

  -- It stands before such a step.
  pub record HasStopped (at : PassedIn) (p : Program) (c : StepCounts) : Type 0 where
    pub stands : StandsAfter b done st p c
    pub limit : PassesLimit at.home at.file (told at.passed)

  -- Why no step is made. Want of memory says nothing of the run.
  abbrev pub IsHindered : StepFault → Program → StepCounts → Type 0
  IsHindered (fault.TooLarge at) p c = HasStopped at p c
  IsHindered fault.NoMemory p c = ⊤

-- On each run on which the first program stands, the second is that after its next step, or no use is free.
abbrev pub TakesStep : Program → StepCounts → List (List ℕ × ℕ) → Option ReportRow → Program → StepCounts
    → Type 0
TakesStep p c places r q d =
    (b : Beginning) (done : List Logged) (st : Standing) → StandsAfter b done st p c → GoesOn b done st places r q d

-- On each such run no step is made.
abbrev pub TakesNoStep : Program → StepCounts → StepFault → Program → StepCounts → Type 0
TakesNoStep p c e q d =
    (b : Beginning) (done : List Logged) (st : Standing) → StandsAfter b done st p c → IsHindered b done st e q d

-- ---- whole runs

-- The run has come to this program, by steps of which these rows tell.
pub record HasRun (b : Beginning) (places : List (List ℕ × ℕ)) (rows : List ReportRow) (p : Program)
    (c : StepCounts) : Type 0 where
  pub done : List Logged
  pub standing : Standing
  pub stands : StandsAfter b done standing p c
  pub tell :
      (files : List ReportSource) → FindsFiles places files → RowsTell (paths_of files) rows (map step_entry done)

-- It ends there.
pub record RunsToEnd (b : Beginning) (places : List (List ℕ × ℕ)) (rows : List ReportRow) (p : Program)
    : Type 0 where
  pub counts : StepCounts
  pub come : HasRun b places rows p counts
  pub ended : StandsAtEnd b come.done come.standing p counts

-- It stops there, before a step that passes a limit.
pub record StopsBefore (b : Beginning) (at : PassedIn) (p : Program) : Type 0 where
  pub done : List Logged
  pub standing : Standing
  pub counts : StepCounts
  pub stopped : HasStopped b done standing at p counts

-- Why a run doesn't end. Want of memory says nothing of it.
abbrev pub DoesNotEnd : Beginning → StepFault → Program → Type 0
DoesNotEnd b (fault.TooLarge at) p = StopsBefore b at p
DoesNotEnd b fault.NoMemory p = ⊤
