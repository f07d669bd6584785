-- The laws of steps over uses that are found. Each is the contract of a function of this crate (Go specification,
-- Constant declarations; Import declarations; golang.org/x/tools, internal/refactor/inline, for what a run is; the
-- limits are this project's own).
use Rattle.std.specs.Prelude.{ℕ, List, [], ◌∷◌, ◌++◌}
use Rattle.go_tree.specs.declared.spans.Span.{Span}
use Rattle.go_tree.specs.FileView.{file_of}
use Rattle.pkg_graph.specs.Package.{Package}
use Rattle.pkg_graph.specs.Reads.{Source}
use Rattle.run_rules.specs.Inlining.{IsTooLarge}
use Rattle.run_rules.specs.Marks.{marks_of}
use Rattle.run_rules.specs.Run.{Standing, Logged, the_limits}
use Rattle.run_rules.specs.Sites.{MarkRef}
use Rattle.run_rules.specs.Texts.{FileText}
use Rattle.step_files.specs.declared.file.FileFault.TheVariants.{TooLarge, NotRead}
use Rattle.step_files.specs.declared.limits.Passed.{Passed}
use Rattle.step_files.specs.declared.limits.Progress.{Progress}
use Rattle.step_files.specs.Files.{text_of}
use Rattle.step_files.specs.Limits.{told}
use Rattle.stepped_programs.specs.declared.package_search.file_steps.step.FileStep.{FileStep}
use Rattle.stepped_programs.specs.declared.package_search.looks.ProgramSources.{ProgramSources}
use Rattle.programs.specs.declared.state.Program.{Program}
use Rattle.programs.specs.Kept.{text_with}
use Rattle.run_by_steps.specs.NextPrograms.Made.{NextWith}
use Rattle.run_by_steps.specs.Reached.{HasReached, row_of}
use Rattle.run_by_steps.specs.RunProgress.Laws.{HasCome}
use Rattle.stepped_programs.specs.SearchedSites.FoundSteps.Laws.{step_of}
use Rattle.stepped_programs.specs.SearchedSites.FoundSteps.Uses.{HasFile, IsRightUse}
use Rattle.stepped_programs.specs.SearchedSites.OrderedSearches.Found.{IsFoundFirst}
use Rattle.stepped_programs.specs.SteppedValues.Flags.{IsKeptProgram}
use Rattle.repeated_parts.specs.declared.use_search.views.FileView.{FileView}
use Rattle.stepped_programs.specs.declared.first_uses.first.FirstUse.{FirstUse}
use Rattle.stepped_programs.specs.FirstUses.Step.{HasFileOf, IsViewOf, MayStep, IsUseStep, IsUseFault}

-- the text of the file of the use, with its tokens and comments
abbrev pub text_there : {p : Program} {u : FirstUse} → HasFileOf p u → FileText
text_there h = text_with h.text h.tokens

-- What a program has of the file of the first use that the run takes is that file as it stands.
abbrev pub FoundFilesStand : Type 0
FoundFilesStand =
    (files : List Source) (marks : List MarkRef) (st : Standing) (p : Program) (s : ProgramSources) (u : FirstUse)
    (a : IsFoundFirst marks st s u.home u.found) (h : HasFileOf p u) (v : FileView)
    → IsKeptProgram files marks st p s → IsViewOf p u h v → HasFile st a.site u.found (text_there h) v h.text h.tokens

-- The use is as steps over it ask, by the text of its file.
abbrev pub IsRightFirst : {marks : List MarkRef} {st : Standing} {s : ProgramSources} {u : FirstUse} → Program
    → IsFoundFirst marks st s u.home u.found → Type 0
IsRightFirst {marks = marks} {st = st} {u = u} p a =
    (h : HasFileOf p u) → IsRightUse marks st (step_of a) (text_there h) u.found.found.form

-- Such a step may be made.
abbrev pub FoundUsesMayStep : Type 0
FoundUsesMayStep =
    (files : List Source) (marks : List MarkRef) (st : Standing) (p : Program) (s : ProgramSources) (u : FirstUse)
    (a : IsFoundFirst marks st s u.home u.found) → IsKeptProgram files marks st p s → IsRightFirst p a → MayStep p u

-- ---- a run on its way

-- A run that has come so far, whose next step is over this use.
pub record ComesTo (files : List Source) (ps : List (Package Span)) (texts : List (List ℕ × FileText)) (only : List ℕ)
    (done : List Logged) (st : Standing) (p : Program) (s : ProgramSources) (u : FirstUse)
    (a : IsFoundFirst (marks_of ps texts only) st s u.home u.found) (progress : Progress) : Type 0 where
  pub reached : HasReached files ps texts only done st
  pub kept : IsKeptProgram files (marks_of ps texts only) st p s
  pub right : IsRightFirst p a
  pub come :
      (h : HasFileOf p u)
      → HasCome progress files done (row_of (marks_of ps texts only) st (step_of a) (text_there h)) st (text_there h)

-- Where the step is made the run has reached the next program.
abbrev pub UseStepsGoOn : Type 0
UseStepsGoOn =
    (files : List Source) (ps : List (Package Span)) (texts : List (List ℕ × FileText)) (only : List ℕ)
    (done : List Logged) (st : Standing) (p : Program) (s : ProgramSources) (u : FirstUse)
    (a : IsFoundFirst (marks_of ps texts only) st s u.home u.found) (progress : Progress) (step : FileStep)
    → ComesTo files ps texts only done st p s u a progress → (made : IsUseStep p u progress step)
    → (n : NextWith (marks_of ps texts only) st (step_of a) (text_there made.file) (text_of step.file)
    (file_of step.file.tree))
    × HasReached files ps texts only
    (done ++ row_of (marks_of ps texts only) st (step_of a) (text_there made.file) ∷ []) n.after

-- Where a limit is answered the run is too large by it.
abbrev pub UseStepsPassLimits : Type 0
UseStepsPassLimits =
    (files : List Source) (ps : List (Package Span)) (texts : List (List ℕ × FileText)) (only : List ℕ)
    (done : List Logged) (st : Standing) (p : Program) (s : ProgramSources) (u : FirstUse)
    (a : IsFoundFirst (marks_of ps texts only) st s u.home u.found) (progress : Progress) (limit : Passed)
    → ComesTo files ps texts only done st p s u a progress → IsUseFault p u progress (TooLarge limit)
    → IsTooLarge the_limits files ps texts only (told limit)

-- The new text is read.
abbrev pub UseStepsAreRead : Type 0
UseStepsAreRead =
    (files : List Source) (ps : List (Package Span)) (texts : List (List ℕ × FileText)) (only : List ℕ)
    (done : List Logged) (st : Standing) (p : Program) (s : ProgramSources) (u : FirstUse)
    (a : IsFoundFirst (marks_of ps texts only) st s u.home u.found) (progress : Progress)
    → ComesTo files ps texts only done st p s u a progress → IsUseFault p u progress NotRead → ⊥
