-- The laws of steps over uses that searches find. Each is the contract of a function of this crate (Go specification,
-- Constant declarations; Import declarations; golang.org/x/tools, internal/refactor/inline, for what a run is; the
-- limits are this project's own).
use Rattle.std.specs.Prelude.{ℕ, List, [], ◌∷◌, ◌++◌, None}
use Rattle.go_tree.specs.declared.spans.Span.{Span}
use Rattle.go_tree.specs.FileView.{file_of}
use Rattle.go_scan.specs.TokenLists.{TokenLists}
use Rattle.pkg_graph.specs.Package.{Package}
use Rattle.pkg_graph.specs.Reads.{Source}
use Rattle.text_edits.specs.declared.edit.Edit.{Edit}
use Rattle.text_edits.specs.Applied.{applied}
use Rattle.run_rules.specs.Inlining.{IsInlining, IsTooLarge}
use Rattle.run_rules.specs.Marks.{marks_of, bad_of}
use Rattle.run_rules.specs.Report.{report_of}
use Rattle.run_rules.specs.Run.{Standing, Logged, the_limits, uses_kept}
use Rattle.run_rules.specs.Sites.{MarkRef}
use Rattle.run_rules.specs.Steps.{At, Found}
use Rattle.run_rules.specs.Texts.{FileText}
use Rattle.stepped_programs.specs.PackageSearch.FileSteps.Steps.{IsStepOf, MakesEdits, IsStepFault}
use Rattle.step_files.specs.declared.limits.Progress.{Progress}
use Rattle.step_files.specs.declared.limits.Passed.{Passed}
use Rattle.step_files.specs.declared.file.NewFile.{NewFile}
use Rattle.step_files.specs.declared.file.FileFault.TheVariants.{TooLarge, NotRead}
use Rattle.step_files.specs.Limits.{told, Passes}
use Rattle.step_files.specs.Files.{IsNewFile, text_of}
use Rattle.run_by_steps.specs.NextPrograms.Made.{NextWith}
use Rattle.stepped_programs.specs.declared.package_search.looks.ProgramSources.{ProgramSources}
use Rattle.stepped_programs.specs.declared.package_search.search.FoundInPackage.{FoundInPackage}
use Rattle.run_by_steps.specs.Reached.{HasReached, IsNextUse, row_of}
use Rattle.run_by_steps.specs.RunProgress.Laws.{HasCome}
use Rattle.stepped_programs.specs.SearchedSites.Searched.{found_of}
use Rattle.printed_constants.specs.TypedParts.MarkedRuns.SettledConstants.Programs.{IsReady}
use Rattle.repeated_parts.specs.declared.use_search.views.FileView.{FileView}
use Rattle.stepped_programs.specs.SearchedSites.OrderedSearches.Found.{IsFoundFirst, IsStepFound}
use Rattle.stepped_programs.specs.SearchedSites.FoundSteps.Uses.{IsRightUse, HasFile, MayBeMade}

-- the step over the use that is found
abbrev pub step_of : {marks : List MarkRef} {st : Standing} {s : ProgramSources} {k : ℕ} {r : FoundInPackage}
    → IsFoundFirst marks st s k r → Found At
step_of {r = r} a = found_of a.site r.found

-- The code is told of the step.
abbrev pub FoundUsesAreSteps : Type 0
FoundUsesAreSteps =
    (marks : List MarkRef) (st : Standing) (s : ProgramSources) (k : ℕ) (r : FoundInPackage)
    (a : IsFoundFirst marks st s k r) (old : FileText) (v : FileView) (text : List ℕ) (tokens : TokenLists)
    → IsReady st → HasFile st a.site r old v text tokens → IsRightUse marks st (step_of a) old r.found.form
    → IsStepOf marks st old (step_of a) v text tokens r.found.form

-- And may make it.
abbrev pub StepsMayBeMade : Type 0
StepsMayBeMade =
    (marks : List MarkRef) (st : Standing) (s : ProgramSources) (k : ℕ) (r : FoundInPackage)
    (a : IsFoundFirst marks st s k r) (old : FileText) (v : FileView) (text : List ℕ) (tokens : TokenLists)
    → IsReady st → HasFile st a.site r old v text tokens → IsRightUse marks st (step_of a) old r.found.form
    → MayBeMade v text tokens r.found.form

-- The use is the next one of the run.
abbrev pub FoundUsesComeNext : Type 0
FoundUsesComeNext =
    (marks : List MarkRef) (st : Standing) (s : ProgramSources) (k : ℕ) (r : FoundInPackage)
    (a : IsFoundFirst marks st s k r) (old : FileText) (v : FileView) (text : List ℕ) (tokens : TokenLists)
    → IsReady st → HasFile st a.site r old v text tokens → IsRightUse marks st (step_of a) old r.found.form
    → IsNextUse marks st (step_of a) old

-- ---- a run on its way

-- With the file that is answered of the step the run has reached the next program.
abbrev pub FileStepsGoOn : Type 0
FileStepsGoOn =
    (files : List Source) (ps : List (Package Span)) (texts : List (List ℕ × FileText)) (only : List ℕ)
    (done : List Logged) (st : Standing) (s : ProgramSources) (k : ℕ) (r : FoundInPackage)
    (a : IsFoundFirst (marks_of ps texts only) st s k r) (old : FileText) (v : FileView) (text : List ℕ)
    (tokens : TokenLists) (p : Progress) (es : List Edit) (new : NewFile) → HasReached files ps texts only done st
    → IsReady st → HasFile st a.site r old v text tokens
    → IsRightUse (marks_of ps texts only) st (step_of a) old r.found.form
    → HasCome p files done (row_of (marks_of ps texts only) st (step_of a) old) st old
    → MakesEdits v text tokens r.found.form es → IsNewFile (applied text es) new → Passes p (text_of new) None
    → (n : NextWith (marks_of ps texts only) st (step_of a) old (text_of new) (file_of new.tree))
    × HasReached files ps texts only (done ++ row_of (marks_of ps texts only) st (step_of a) old ∷ []) n.after

-- Where a limit is answered, the run is too large by it.
abbrev pub FileStepsPassLimits : Type 0
FileStepsPassLimits =
    (files : List Source) (ps : List (Package Span)) (texts : List (List ℕ × FileText)) (only : List ℕ)
    (done : List Logged) (st : Standing) (s : ProgramSources) (k : ℕ) (r : FoundInPackage)
    (a : IsFoundFirst (marks_of ps texts only) st s k r) (old : FileText) (v : FileView) (text : List ℕ)
    (tokens : TokenLists) (p : Progress) (limit : Passed) → HasReached files ps texts only done st → IsReady st
    → HasFile st a.site r old v text tokens → IsRightUse (marks_of ps texts only) st (step_of a) old r.found.form
    → HasCome p files done (row_of (marks_of ps texts only) st (step_of a) old) st old
    → IsStepFault v text tokens r.found.form p (TooLarge limit)
    → IsTooLarge the_limits files ps texts only (told limit)

-- The new text is read.
abbrev pub FileStepsAreRead : Type 0
FileStepsAreRead =
    (files : List Source) (ps : List (Package Span)) (texts : List (List ℕ × FileText)) (only : List ℕ)
    (done : List Logged) (st : Standing) (s : ProgramSources) (k : ℕ) (r : FoundInPackage)
    (a : IsFoundFirst (marks_of ps texts only) st s k r) (old : FileText) (v : FileView) (text : List ℕ)
    (tokens : TokenLists) (p : Progress) → HasReached files ps texts only done st → IsReady st
    → HasFile st a.site r old v text tokens → IsRightUse (marks_of ps texts only) st (step_of a) old r.found.form
    → IsStepFault v text tokens r.found.form p NotRead → ⊥

-- Where no free use is found, the texts are those of the inlined module, with the report of these steps.
abbrev pub SearchesEndRuns : Type 0
SearchesEndRuns =
    (files : List Source) (ps : List (Package Span)) (texts : List (List ℕ × FileText)) (only : List ℕ)
    (done : List Logged) (last : Standing) (s : ProgramSources) → HasReached files ps texts only done last
    → IsStepFound (marks_of ps texts only) last s None
    → IsInlining the_limits files ps texts only last.texts
    (report_of texts done (uses_kept (marks_of ps texts only) last) (bad_of ps texts ps))
