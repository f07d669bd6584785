-- What is answered of the step over the use that is found, and what it makes of the run.
use Rattle.std.proofs.Common.{◌≡◌, ◌∙◌, sym, ap, subst, ℕ, List}
use Rattle.go_scan.specs.TokenLists.{TokenLists}
use Rattle.text_edits.specs.declared.edit.Edit.{Edit}
use Rattle.text_edits.specs.Applied.{applied}
use Rattle.run_rules.specs.Marks.{marks_of}
use Rattle.run_rules.specs.Run.{Standing}
use Rattle.run_rules.specs.Sites.{MarkRef}
use Rattle.run_rules.specs.Texts.{FileText}
use Rattle.stepped_programs.specs.PackageSearch.FileSteps.Steps.{MakesEdits}
use Rattle.step_files.specs.declared.file.FileFault.TheVariants.{TooLarge, NotRead}
use Rattle.step_files.specs.Files.{IsNewFile, IsFault}
use Rattle.stepped_programs.specs.declared.package_search.looks.ProgramSources.{ProgramSources}
use Rattle.stepped_programs.specs.declared.package_search.search.FoundInPackage.{FoundInPackage}
use Rattle.run_by_steps.specs.Reached.{text_made}
use Rattle.run_by_steps.specs.Laws.{StepGoesOn, StepPassesLimit, StepIsRead, RunEnds}
use Rattle.printed_constants.specs.TypedParts.MarkedRuns.SettledConstants.Programs.{IsReady}
use Rattle.repeated_parts.specs.declared.use_search.views.FileView.{FileView}
use Rattle.stepped_programs.specs.SearchedSites.OrderedSearches.Found.{IsFoundFirst}
use Rattle.stepped_programs.specs.SearchedSites.FoundSteps.Uses.{IsRightUse, HasFile}
use Rattle.stepped_programs.specs.SearchedSites.FoundSteps.Laws.{step_of, FoundUsesAreSteps, FoundUsesComeNext, FileStepsGoOn, FileStepsPassLimits, FileStepsAreRead, SearchesEndRuns}

module _ (marks : List MarkRef) (st : Standing) (s : ProgramSources) (k : ℕ) (r : FoundInPackage) (a : IsFoundFirst marks st s k r) (old : FileText) (v : FileView) (text : List ℕ) (tokens : TokenLists)
    (ready : IsReady st) (has : HasFile st a.site r old v text tokens) (right : IsRightUse marks st (step_of a) old r.found.form) where
  -- the edits make the text of the run's step
  text_same : FoundUsesAreSteps → (es : List Edit) → MakesEdits v text tokens r.found.form es → applied text es ≡ text_made marks st (step_of a) old
  text_same steps es m =
      ap (λ (t : List ℕ). applied t es) (ap (λ (t : FileText). t.text) (sym has.text_is))
      ∙ ap (applied old.text) (m marks st old (step_of a) (steps marks st s k r a old v text tokens ready has right))

pub file_goes_on : FoundUsesAreSteps → FoundUsesComeNext → StepGoesOn → FileStepsGoOn
file_goes_on steps next on files ps texts only done st s k r a old v text tokens p es new reached ready has right come m is fits =
    on files ps texts only done st (step_of a) old p new reached (next (marks_of ps texts only) st s k r a old v text tokens ready has right) come
    (subst (λ (t : List ℕ). IsNewFile t new) (text_same (marks_of ps texts only) st s k r a old v text tokens ready has right steps es m) is) fits

pub file_passes_limit : FoundUsesAreSteps → FoundUsesComeNext → StepPassesLimit → FileStepsPassLimits
file_passes_limit steps next on files ps texts only done st s k r a old v text tokens p limit reached ready has right come fault =
    on files ps texts only done st (step_of a) old p limit reached (next (marks_of ps texts only) st s k r a old v text tokens ready has right) come
    (subst (λ (t : List ℕ). IsFault p t (TooLarge limit)) (text_same (marks_of ps texts only) st s k r a old v text tokens ready has right steps fault.0 fault.1.0) fault.1.1)

pub file_is_read : FoundUsesAreSteps → FoundUsesComeNext → StepIsRead → FileStepsAreRead
file_is_read steps next on files ps texts only done st s k r a old v text tokens p reached ready has right fault =
    on files ps texts only done st (step_of a) old p reached (next (marks_of ps texts only) st s k r a old v text tokens ready has right)
    (subst (λ (t : List ℕ). IsFault p t NotRead) (text_same (marks_of ps texts only) st s k r a old v text tokens ready has right steps fault.0 fault.1.0) fault.1.1)

pub run_is_over : RunEnds → SearchesEndRuns
run_is_over ends files ps texts only done last s reached none = ends files ps texts only done last reached none
