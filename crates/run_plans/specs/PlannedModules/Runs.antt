-- From the program of a module to its plan (golang.org/x/tools, analyzer inline, for what a run is and what is
-- reported; Go specification, Packages; Source file organization).
use Rattle.std.specs.Prelude.{◌≡◌, ⊤, ℕ, if◌then◌else◌, List, [], ◌∷◌, length, map, Some}
use Rattle.run_plans.specs.PlannedFiles.ChangedFiles.Changed.{changes}
use Rattle.go_tree.specs.declared.spans.Span.{Span}
use Rattle.run_plans.specs.InlinedPrograms.Beginnings.{Beginning, BeginsRun}
use Rattle.run_plans.specs.declared.inlined_programs.faults.PassedIn.{PassedIn}
use Rattle.module_marks.specs.Views.{bad_at_of}
use Rattle.module_texts.specs.Files.{go_files, is_go_file}
use Rattle.module_texts.specs.declared.modules.ReadModule.{ReadModule}
use Rattle.step_files.specs.declared.limits.Passed.{Passed}
use Rattle.step_files.specs.Limits.{told}
use Rattle.pkg_graph.specs.Package.{Package}
use Rattle.pkg_graph.specs.Reads.{Source}
use Rattle.pkg_graph.specs.declared.packages.Package as code
use Rattle.run_plans.specs.PlannedFiles.Changes.{files_differing}
use Rattle.run_plans.specs.PlannedFiles.Limits.{TellsLimit, path_in}
use Rattle.run_plans.specs.PlannedFiles.Texts.{last_texts}
use Rattle.programs.specs.declared.state.Program.{Program}
use Rattle.read_modules.specs.Modules.{IsReadIn, packages_in, texts_in}
use Rattle.refusals.specs.declared.refusal.Refusal.{Refusal}
use Rattle.report_order.specs.declared.rows.ReportRow.{ReportRow}
use Rattle.report_order.specs.declared.text.ReportSource.{ReportSource}
use Rattle.stepped_programs.specs.RunReports.Reports.{IsReport}
use Rattle.run_rules.specs.Inlining.{IsInlining, IsTooLarge}
use Rattle.run_rules.specs.Marks.{bad_of}
use Rattle.run_rules.specs.Run.{bytes_of, the_limits}
use Rattle.run_rules.specs.Texts.{FileText}
use Rattle.source_files.specs.declared.files.SourceFile.{SourceFile}
use Rattle.run_plans.specs.declared.planned_modules.faults.ModuleFault.{ModuleFault}
use Rattle.run_plans.specs.declared.planned_modules.faults.ModuleFault.TheVariants.{Refused, NoMemory}
use Rattle.run_plans.specs.declared.planned_modules.plan.Plan.{Plan}

-- ---- the report

-- the path and the bytes of a file of a report
abbrev pub told_source : ReportSource → List ℕ × List ℕ
told_source s = (s.path.now, s.text.now)

-- the path and the bytes of a file that was read
abbrev pub told_file : SourceFile → List ℕ × List ℕ
told_file f = (f.path, f.bytes)

-- those of a file of Go source; of another file nothing
abbrev pub go_row : SourceFile → List (List ℕ × List ℕ)
go_row f = if is_go_file f then told_file f ∷ [] else []

-- These are the files of Go source.
abbrev pub AreGoSources : List SourceFile → List ReportSource → Type 0
AreGoSources files sources = map told_source sources ≡ map told_file (go_files files)

-- The plan is made of the program at the end of a run, whose steps have these rows: its report is that of the steps,
-- of the uses that the program keeps and of the marks that mean nothing, and it writes the files that the run changes.
pub record IsMadeOf (files : List SourceFile) (sources : List ReportSource) (places : List (List ℕ × ℕ))
    (p : Program) (rows : List ReportRow) (plan : Plan) : Type 0 where
  pub reported : IsReport p places sources rows plan.report
  pub steps_are : plan.steps ≡ length rows
  pub writes : plan.writes.items ≡ changes files (last_texts p files)

-- ---- the run

-- where the run of a module begins that was read from the files of a folder
abbrev pub beginning_of : List Source → ReadModule → List ℕ → Beginning
beginning_of folder m only = record { files = folder; packages = packages_in m; texts = texts_in m; only = only }

-- The program is that of a module that was read from these files of a folder, at the beginning of its run, and has the
-- marks of the module that mean nothing.
pub record StartsRun (folder : List Source) (files : List SourceFile) (m : ReadModule) (only : List ℕ) (p : Program)
    : Type 0 where
  pub read : IsReadIn folder files m
  pub begins : BeginsRun (beginning_of folder m only) p
  pub bad_are : map bad_at_of p.bad.items ≡ bad_of (packages_in m) (texts_in m) (packages_in m)

-- So it is of some folder.
pub record StartsSomeRun (files : List SourceFile) (p : Program) : Type 0 where
  pub folder : List Source
  pub read_module : ReadModule
  pub only : List ℕ
  pub starts : StartsRun folder files read_module only p

-- The plan is that of the run of a module of these packages and texts.
pub record IsRunPlan (folder : List Source) (files : List SourceFile) (ps : List (Package Span))
    (texts : List (List ℕ × FileText)) (only : List ℕ) (plan : Plan) : Type 0 where
  pub after : List (List ℕ × FileText)
  pub inlining : IsInlining the_limits folder ps texts only after plan.report
  pub steps_are : plan.steps ≡ length inlining.log
  pub writes : plan.writes.items ≡ files_differing (bytes_of after) files

-- The refusal tells of a limit that the run of such a module passes.
pub record IsRunStop (folder : List Source) (files : List SourceFile) (ps : List (Package Span))
    (texts : List (List ℕ × FileText)) (only : List ℕ) (r : Refusal) : Type 0 where
  pub limit : Passed
  pub passes : IsTooLarge the_limits folder ps texts only (told limit)
  pub tells : TellsLimit files passes.last.file limit r

-- why there is no such plan; want of memory says nothing
abbrev pub IsRunFault : List Source → List SourceFile → List (Package Span) → List (List ℕ × FileText)
    → List ℕ → ModuleFault → Type 0
IsRunFault folder files ps texts only (Refused r) = IsRunStop folder files ps texts only r
IsRunFault folder files ps texts only NoMemory = ⊤

-- the refusal tells of a limit that a step in the file with these numbers passes, which was read
abbrev pub IsLimitOf : List SourceFile → List code.Package → PassedIn → ModuleFault → Type 0
IsLimitOf files packages at (Refused r) =
    (path : List ℕ) → path_in packages at.home at.file ≡ Some path → TellsLimit files path at.passed r
IsLimitOf files packages at NoMemory = ⊤
