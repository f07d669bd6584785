-- The step over the first free use of a program, by all that is kept of it (Go specification, Constant declarations;
-- Import declarations; golang.org/x/tools, analyzer inline and internal/refactor/inline, for what a run is and what is
-- reported).
use Rattle.std.specs.Prelude.{◌≡◌, ⊤, ℕ, ◌+◌, ◌≤◌, ◌<◌, ◌^◌, is_some, List, length, map}
use Rattle.std.specs.Prelude.{Option, Some}
use Rattle.go_tree.specs.declared.spans.Span.{Span}
use Rattle.go_tree.specs.FileView.{decl_of}
use Rattle.file_tables.specs.Blocks.{block_in}
use Rattle.step_files.specs.declared.file.FileFault.TheVariants as file_fault
use Rattle.step_files.specs.declared.file.NewFile.{NewFile}
use Rattle.step_files.specs.declared.limits.Progress.{Progress}
use Rattle.stepped_programs.specs.declared.package_search.file_steps.step.FileStep.{FileStep}
use Rattle.pkg_graph.specs.declared.packages.SourceTree.{SourceTree}
use Rattle.programs.specs.OriginsOfUses.Origins.{decls_origin}
use Rattle.programs.specs.PartOrigins.Views.{origins_of}
use Rattle.programs.specs.declared.part_origins.origins.Origins.{Origins}
use Rattle.programs.specs.declared.state.Program.{Program}
use Rattle.report_order.specs.declared.rows.ReportRow.{ReportRow}
use Rattle.stepped_programs.specs.RunReports.Kept.{MayBeTold, origins_at, source_at}
use Rattle.stepped_programs.specs.RunReports.Rows.{IsStepRow}
use Rattle.stepped_programs.specs.declared.run_reports.steps.LoggedStep.{LoggedStep}
use Rattle.run_by_steps.specs.StepCounts.Laws.{OneMore}
use Rattle.run_by_steps.specs.StepCounts.Origins.{steps_from}
use Rattle.run_by_steps.specs.declared.step_counts.counts.StepCounts.{StepCounts}
use Rattle.stepped_programs.specs.FirstUses.Step.{HasFileOf, MayStep, IsUseStep, IsUseFault}
use Rattle.stepped_programs.specs.Laws.{place_of}
use Rattle.stepped_programs.specs.ProgramsOnTheWay.OnTheWay.{IsProgressOf}
use Rattle.stepped_programs.specs.Steps.{AreSwapped, MayBePut, IsStepPut}
use Rattle.stepped_programs.specs.declared.first_uses.first.FirstUse.{FirstUse}
use Rattle.stepped_programs.specs.declared.held_blocks.HeldBlock.{HeldBlock}
use Rattle.run_plans.specs.declared.inlined_programs.faults.PassedIn.{PassedIn}
use Rattle.run_plans.specs.declared.inlined_programs.faults.StepFault.{StepFault}
use Rattle.run_plans.specs.declared.inlined_programs.faults.StepFault.TheVariants as fault

-- The step over the use is logged so: where it is made, its constant, and the offset from which the use comes in its
-- file as read.
pub record IsLogOf (p : Program) (u : FirstUse) (l : LoggedStep) : Type 0 where
  pub source : SourceTree
  pub source_is : source_at p u.home u.found.file ≡ Some source
  pub origins : Origins
  pub origins_are : origins_at p u.home u.found.file ≡ Some origins
  pub origin : Span
  pub comes : decls_origin u.found.found.form.span (map decl_of source.tree.decls) (origins_of origins) ≡ Some origin
  pub log_is :
      l
      ≡ record { «package» = u.home; file = u.found.file; offset = origin.start; mark = u.found.found.use_.mark }

-- So far the run has come before the step that is logged so.
pub record ComesToLog (p : Program) (c : StepCounts) (u : FirstUse) (l : LoggedStep) (progress : Progress)
    : Type 0 where
  pub log : IsLogOf p u l
  pub progress_is : IsProgressOf p u c l.offset progress

-- the new text is read
abbrev pub TextIsRead : Program → FirstUse → Progress → Type 0
TextIsRead p u progress = IsUseFault p u progress file_fault.NotRead → ⊥

-- What the step over the use asks: of the file with the use, of the counts, and that the new text is read and may be
-- put into the program.
pub record MayBeTaken (p : Program) (c : StepCounts) (u : FirstUse) : Type 0 where
  pub told : MayBeTold p
  pub may : MayStep p u
  pub fits : (h : HasFileOf p u) → length h.text ≤ p.bytes
  pub read : (l : LoggedStep) (progress : Progress) → ComesToLog p c u l progress → TextIsRead p u progress
  pub put :
      (l : LoggedStep) (progress : Progress) (s : FileStep) → ComesToLog p c u l progress → IsUseStep p u progress s
      → MayBePut p (place_of u.home u.found) s.file
  pub steps : c.steps + 1 < 2 ^ 32
  pub of_origin : (offset : ℕ) → steps_from (u.home, (u.found.file, offset)) c.origins ≤ c.steps

-- ---- the step

-- The block of the package of the use is held.
abbrev pub HoldsBlockOf : FirstUse → Option HeldBlock → Type 0
HoldsBlockOf u held = held ≡ Some (record { home = u.home; block = block_in u.found.tables })

-- The file is put into the program, the step is counted, and this is its row.
pub record HasPut (p : Program) (c : StepCounts) (u : FirstUse) (places : List (List ℕ × ℕ)) (l : LoggedStep)
    (f : NewFile) (row : ReportRow) (q : Program) (d : StepCounts) : Type 0 where
  pub row_is : IsStepRow p.packages.items places l row
  pub origins : List Span
  pub are_swapped :
      AreSwapped p (place_of u.home u.found) (is_some u.found.found.form.«package») u.found.found.form.span origins
  pub put : IsStepPut (place_of u.home u.found) origins u.found.tables.names.«package» f p q
  pub counted : OneMore c d (u.home, (u.found.file, l.offset))

-- The step over the use is made.
pub record HasTaken (p : Program) (c : StepCounts) (u : FirstUse) (places : List (List ℕ × ℕ)) (row : ReportRow)
    (q : Program) (d : StepCounts) : Type 0 where
  pub log : LoggedStep
  pub progress : Progress
  pub comes : ComesToLog p c u log progress
  pub step : FileStep
  pub is_step : IsUseStep p u progress step
  pub put : HasPut p c u places log step.file row q d

-- It passes this limit, in its file.
pub record PassesIn (p : Program) (u : FirstUse) (progress : Progress) (at : PassedIn) : Type 0 where
  pub home_is : at.home ≡ u.home
  pub file_is : at.file ≡ u.found.file
  pub is_fault : IsUseFault p u progress (file_fault.TooLarge at.passed)

-- Why it leaves no file. Want of memory says nothing of it.
abbrev pub LeavesNoFile : Program → FirstUse → Progress → StepFault → Type 0
LeavesNoFile p u progress (fault.TooLarge at) = PassesIn p u progress at
LeavesNoFile p u progress fault.NoMemory = ⊤

-- So nothing changes.
pub record HasNotTaken (p : Program) (c : StepCounts) (u : FirstUse) (at : PassedIn) (q : Program) (d : StepCounts)
    : Type 0 where
  pub log : LoggedStep
  pub progress : Progress
  pub comes : ComesToLog p c u log progress
  pub passes : PassesIn p u progress at
  pub program_stays : q ≡ p
  pub counts_stay : d ≡ c

-- Why it isn't made.
abbrev pub IsNotTaken : Program → StepCounts → FirstUse → StepFault → Program → StepCounts → Type 0
IsNotTaken p c u (fault.TooLarge at) q d = HasNotTaken p c u at q d
IsNotTaken p c u fault.NoMemory q d = ⊤
