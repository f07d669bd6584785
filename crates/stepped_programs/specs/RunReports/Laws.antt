-- The laws of reports of runs. Each is the contract of a function of this crate (Go specification, Constant
-- declarations; Packages; golang.org/x/tools, analyzer inline, for what is reported).
use Rattle.std.specs.Prelude.{◌≡◌, ℕ, List, ◌++◌, map}
use Rattle.go_tree.specs.declared.spans.Span.{Span}
use Rattle.pkg_graph.specs.Package.{Package}
use Rattle.pkg_graph.specs.Reads.{Source}
use Rattle.run_rules.specs.Marks.{marks_of, bad_of}
use Rattle.run_rules.specs.Report.{Entry, step_entry, kept_entry, bad_entry, report_of}
use Rattle.run_rules.specs.Run.{Standing, Logged, uses_kept}
use Rattle.run_rules.specs.Sites.{MarkRef, part_span}
use Rattle.run_rules.specs.Texts.{FileText}
use Rattle.module_marks.specs.Views.{bad_at_of, mark_ref_of}
use Rattle.module_marks.specs.declared.file_marks.BadMarkAt.{BadMarkAt}
use Rattle.stepped_programs.specs.declared.package_search.looks.ProgramSources.{ProgramSources}
use Rattle.programs.specs.Programs.{IsProgramOf}
use Rattle.programs.specs.declared.state.Program.{Program}
use Rattle.report_order.specs.Laws.{Tells, RowsTell, AreSources}
use Rattle.report_order.specs.declared.rows.ReportRow.{ReportRow}
use Rattle.report_order.specs.declared.text.ReportSource.{ReportSource}
use Rattle.run_by_steps.specs.Reached.{row_of}
use Rattle.run_by_steps.specs.declared.step_counts.counts.StepCounts.{StepCounts}
use Rattle.stepped_programs.specs.ProgramsOnTheWay.OnTheWay.{IsOnTheWay}
use Rattle.stepped_programs.specs.SearchedSites.FoundSteps.Laws.{step_of}
use Rattle.stepped_programs.specs.SearchedSites.OrderedSearches.Found.{IsFoundFirst}
use Rattle.stepped_programs.specs.SteppedValues.Flags.{IsKeptProgram}
use Rattle.stepped_programs.specs.declared.first_uses.first.FirstUse.{FirstUse}
use Rattle.stepped_programs.specs.RunReports.Kept.{MayBeTold, IsProgramTold}
use Rattle.stepped_programs.specs.RunReports.Reports.{IsReport}
use Rattle.stepped_programs.specs.RunReports.Rows.{FindsFiles, IsStepRow, IsBadRow, AddsRow, InTurn}
use Rattle.stepped_programs.specs.declared.run_reports.steps.LoggedStep.{LoggedStep}

-- the paths of the files of a report
abbrev pub paths_of : List ReportSource → List (List ℕ)
paths_of files = map (λ f. f.path.now) files

-- The rows of these entries come behind others.
pub record AddsEntries (files : List ReportSource) (es : List Entry) (old new : List ReportRow) : Type 0 where
  pub rows : List ReportRow
  pub added : new ≡ old ++ rows
  pub tell : RowsTell (paths_of files) rows es

-- ---- steps

-- The step is logged as that over the first use that the run takes: where it is made, its constant, and the offset from
-- which the use comes.
pub record IsLogged {marks : List MarkRef} {st : Standing} {s : ProgramSources} {u : FirstUse}
    (a : IsFoundFirst marks st s u.home u.found) (l : LoggedStep) : Type 0 where
  pub package_is : l.«package» ≡ u.home
  pub file_is : l.file ≡ u.found.file
  pub offset_is : l.offset ≡ (part_span a.site.part).origin.start
  pub mark_is : mark_ref_of l.mark ≡ mark_ref_of u.found.found.use_.mark

-- Its row tells of that step.
abbrev pub StepRowsTell : Type 0
StepRowsTell =
    (folder : List Source) (marks : List MarkRef) (st : Standing) (p : Program) (s : ProgramSources) (u : FirstUse)
    (a : IsFoundFirst marks st s u.home u.found) (old : FileText) (files : List ReportSource)
    (places : List (List ℕ × ℕ)) (l : LoggedStep) (r : ReportRow) → IsKeptProgram folder marks st p s
    → FindsFiles places files → IsLogged a l → IsStepRow p.packages.items places l r
    → Tells (paths_of files) r (step_entry (row_of marks st (step_of a) old))

-- ---- uses that are kept

-- A program that is kept may be asked for the uses that it keeps.
abbrev pub ProgramsMayBeTold : Type 0
ProgramsMayBeTold =
    (folder : List Source) (marks : List MarkRef) (st : Standing) (p : Program) → IsProgramOf folder marks st p
    → MayBeTold p

-- For a program on the way of a run the rows that are added tell of the uses that it keeps.
abbrev pub KeptRowsTell : Type 0
KeptRowsTell =
    (folder : List Source) (ps : List (Package Span)) (texts : List (List ℕ × FileText)) (only : List ℕ)
    (done : List Logged) (st : Standing) (p : Program) (s : ProgramSources) (c : StepCounts)
    (files : List ReportSource) (places : List (List ℕ × ℕ)) (old new : List ReportRow)
    → IsOnTheWay folder ps texts only done st p s c → FindsFiles places files → IsProgramTold p places old new
    → AddsEntries files (map kept_entry (uses_kept (marks_of ps texts only) st)) old new

-- ---- marks that mean nothing

-- Their rows tell of them.
abbrev pub BadRowsTell : Type 0
BadRowsTell =
    (files : List ReportSource) (places : List (List ℕ × ℕ)) (bad : List BadMarkAt) (old new : List ReportRow)
    → FindsFiles places files → InTurn (AddsRow (IsBadRow places)) bad old new
    → AddsEntries files (map bad_entry (map bad_at_of bad)) old new

-- ---- the report

-- For a program on the way of a run, in which no use is free, the text is the report of the run over the files as read,
-- where the steps have rows that tell of them, and the program has the marks of the files as read that mean nothing.
abbrev pub ReportsAreOfRuns : Type 0
ReportsAreOfRuns =
    (folder : List Source) (ps : List (Package Span)) (texts : List (List ℕ × FileText)) (only : List ℕ)
    (done : List Logged) (st : Standing) (p : Program) (s : ProgramSources) (c : StepCounts)
    (files : List ReportSource) (places : List (List ℕ × ℕ)) (steps : List ReportRow) (text : List ℕ)
    → IsOnTheWay folder ps texts only done st p s c → AreSources files texts → FindsFiles places files
    → RowsTell (paths_of files) steps (map step_entry done) → map bad_at_of p.bad.items ≡ bad_of ps texts ps
    → IsReport p places files steps text
    → text ≡ report_of texts done (uses_kept (marks_of ps texts only) st) (bad_of ps texts ps)
