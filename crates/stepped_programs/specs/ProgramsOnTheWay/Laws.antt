-- The laws of programs on the way of a run. Each is the contract of a function of this crate (Go specification,
-- Constant declarations; Packages; golang.org/x/tools, internal/refactor/inline, for what a run is; the limits are this
-- project's own).
use Rattle.std.specs.Prelude.{◌≡◌, ℕ, ◌+◌, ◌≤◌, true, is_some, List, [], ◌∷◌, ◌++◌, Option}
use Rattle.std.specs.Prelude.{Some, None, slice_get}
use Rattle.std.specs.List.{list_all}
use Rattle.go_tree.specs.declared.spans.Span.{Span}
use Rattle.go_tree.specs.FileView.{file_of}
use Rattle.go_tree.specs.GoWords.Tokens.Characters.{each}
use Rattle.splice_laws.specs.ImportSplices.AddedFile.{is_byte}
use Rattle.pkg_graph.specs.Package.{Package}
use Rattle.pkg_graph.specs.Views.{package_view}
use Rattle.pkg_graph.specs.declared.packages.Package as code
use Rattle.file_names.specs.Members.{IsBlockOf}
use Rattle.pkg_graph.specs.Reads.{Source}
use Rattle.go_translation.specs.SameMeaning.{WellTyped}
use Rattle.stepped_programs.specs.LoadedPrograms.Loaded.{IsLoaded}
use Rattle.member_uses.specs.Laws.{AllConstants}
use Rattle.module_texts.specs.declared.modules.ReadModule.{ReadModule}
use Rattle.step_files.specs.declared.limits.Progress.{Progress}
use Rattle.step_files.specs.Files.{text_of}
use Rattle.order_runs.specs.RunSteps.RunPackages.{packages_of}
use Rattle.stepped_programs.specs.declared.package_search.file_steps.step.FileStep.{FileStep}
use Rattle.stepped_programs.specs.declared.package_search.looks.ProgramSources.{ProgramSources}
use Rattle.constant_modules.specs.ConstantPrograms.Programs.{HasForm}
use Rattle.literal_tables.specs.HasTypes.{HasTypes}
use Rattle.run_rules.specs.Programs.{world}
use Rattle.programs.specs.declared.state.Program.{Program}
use Rattle.read_modules.specs.Modules.{packages_in, texts_in}
use Rattle.run_by_steps.specs.NextPrograms.Made.{NextWith}
use Rattle.run_by_steps.specs.Reached.{AllSupported, HasReached, row_of}
use Rattle.run_rules.specs.Inlining.{ModuleReads, IsInlining, standing_as_read}
use Rattle.run_rules.specs.Marks.{marks_of, bad_of}
use Rattle.run_rules.specs.Report.{report_of}
use Rattle.run_rules.specs.Run.{Standing, Logged, module_file_size, texts_size, the_limits, uses_kept}
use Rattle.run_rules.specs.Sites.{part_span}
use Rattle.run_rules.specs.Texts.{FileText}
use Rattle.run_by_steps.specs.declared.step_counts.counts.StepCounts.{StepCounts}
use Rattle.run_by_steps.specs.StepCounts.Laws.{OneMore}
use Rattle.stepped_programs.specs.FirstUses.First.{IsFirstUse}
use Rattle.stepped_programs.specs.FirstUses.Step.{IsUseStep}
use Rattle.stepped_programs.specs.FirstUses.StepLaws.{text_there, IsRightFirst, ComesTo}
use Rattle.stepped_programs.specs.Laws.{place_of}
use Rattle.stepped_programs.specs.SearchedSites.FoundSteps.Laws.{step_of}
use Rattle.stepped_programs.specs.SearchedSites.OrderedSearches.Found.{IsFoundFirst}
use Rattle.stepped_programs.specs.SteppedValues.Held.{AreSourcesOf}
use Rattle.stepped_programs.specs.Steps.{AreSwapped, IsStepPut}
use Rattle.stepped_programs.specs.declared.first_uses.first.FirstUse.{FirstUse}
use Rattle.stepped_programs.specs.ProgramsOnTheWay.OnTheWay.{IsOnTheWay, IsProgressOf}

-- What is loaded of a module that reads stands at the beginning of a run, where the paths of its files are octets, its
-- words are supported, it is well typed and within the limit, it has the form whose constants are inlined, all its marks
-- are of constants, and the table of its types has those that it declares.
abbrev pub RunsBegin : Type 0
RunsBegin =
    (files : List Source) (m : ReadModule) (only : List ℕ) (p : Program) (s : ProgramSources) (c : StepCounts)
    → ModuleReads files (packages_in m) (texts_in m) → list_all (λ f. each is_byte f.path) files ≡ true
    → AllSupported (texts_in m) → WellTyped (packages_of (packages_in m) []) → HasForm (packages_in m)
    → AllConstants (packages_in m) (marks_of (packages_in m) (texts_in m) only)
    → module_file_size files + texts_size (texts_in m) ≤ the_limits.total → IsLoaded files m only p
    → AreSourcesOf p s → HasTypes (world (packages_in m)) p.types
    → c.steps ≡ 0 → c.origins ≡ []
    → IsOnTheWay files (packages_in m) (texts_in m) only [] (standing_as_read (packages_in m) (texts_in m)) p s c

-- the program stands on the way of the run from these files
module _ (files : List Source) (ps : List (Package Span)) (texts : List (List ℕ × FileText)) (only : List ℕ) where
  -- so it does once its first free use is looked for,
  abbrev pub FirstUsesStayOn : Type 0
  FirstUsesStayOn =
      (done : List Logged) (st : Standing) (old new : Program) (s : ProgramSources) (c : StepCounts)
      (r : Option FirstUse) → IsOnTheWay files ps texts only done st old s c → IsFirstUse old new r
      → IsOnTheWay files ps texts only done st new s c

  -- and what is found is the use that the run takes next, as steps over it ask.
  abbrev pub FirstUsesAreRight : Type 0
  FirstUsesAreRight =
      (done : List Logged) (st : Standing) (old new : Program) (s : ProgramSources) (c : StepCounts) (u : FirstUse)
      → IsOnTheWay files ps texts only done st old s c → IsFirstUse old new (Some u)
      → (a : IsFoundFirst (marks_of ps texts only) st s u.home u.found) × IsRightFirst new a

  -- The step over it comes next, where it is told how far the run has come.
  abbrev pub RightUsesComeNext : Type 0
  RightUsesComeNext =
      (done : List Logged) (st : Standing) (p : Program) (s : ProgramSources) (c : StepCounts) (u : FirstUse)
      (a : IsFoundFirst (marks_of ps texts only) st s u.home u.found) (progress : Progress)
      → IsOnTheWay files ps texts only done st p s c → IsRightFirst p a
      → IsProgressOf p u c (part_span a.site.part).origin.start progress
      → ComesTo files ps texts only done st p s u a progress

  -- With the file of the step put in, the origins of its declaration told, and the step counted, the next program
  -- stands on the way.
  abbrev pub StepsStayOn : Type 0
  StepsStayOn =
      (done : List Logged) (st : Standing) (p q : Program) (s t : ProgramSources) (c d : StepCounts) (u : FirstUse)
      (a : IsFoundFirst (marks_of ps texts only) st s u.home u.found) (progress : Progress) (step : FileStep)
      → IsOnTheWay files ps texts only done st p s c → ComesTo files ps texts only done st p s u a progress
      → (made : IsUseStep p u progress step)
      → (n : NextWith (marks_of ps texts only) st (step_of a) (text_there made.file) (text_of step.file)
      (file_of step.file.tree))
      → HasReached files ps texts only
      (done ++ row_of (marks_of ps texts only) st (step_of a) (text_there made.file) ∷ []) n.after
      → (os : List Span)
      → AreSwapped p (place_of u.home u.found) (is_some u.found.found.form.«package») u.found.found.form.span os
      → IsStepPut (place_of u.home u.found) os u.found.tables.names.«package» step.file p q → AreSourcesOf q t
      → OneMore c d (a.site.at.number, (a.site.at.file_number, (part_span a.site.part).origin.start))
      → IsOnTheWay files ps texts only
      (done ++ row_of (marks_of ps texts only) st (step_of a) (text_there made.file) ∷ []) n.after q t d

  -- The block of the package of the step is that of the next program.
  abbrev pub BlocksStayOn : Type 0
  BlocksStayOn =
      (done : List Logged) (st : Standing) (p q : Program) (s : ProgramSources) (c : StepCounts) (u : FirstUse)
      (a : IsFoundFirst (marks_of ps texts only) st s u.home u.found) (progress : Progress) (step : FileStep)
      → IsOnTheWay files ps texts only done st p s c → ComesTo files ps texts only done st p s u a progress
      → (made : IsUseStep p u progress step)
      → NextWith (marks_of ps texts only) st (step_of a) (text_there made.file) (text_of step.file)
      (file_of step.file.tree)
      → (os : List Span)
      → AreSwapped p (place_of u.home u.found) (is_some u.found.found.form.«package») u.found.found.form.span os
      → IsStepPut (place_of u.home u.found) os u.found.tables.names.«package» step.file p q
      → (home : code.Package) → slice_get q.packages.items u.home ≡ Some home
      → IsBlockOf u.found.tables.names.«package» (package_view home)

  -- Where no free use is found, the texts are those of the inlined module, with the report of these steps.
  abbrev pub EndsRun : Type 0
  EndsRun =
      (done : List Logged) (st : Standing) (old new : Program) (s : ProgramSources) (c : StepCounts)
      → IsOnTheWay files ps texts only done st old s c → IsFirstUse old new None
      → IsInlining the_limits files ps texts only st.texts
      (report_of texts done (uses_kept (marks_of ps texts only) st) (bad_of ps texts ps))

-- from whatever files
abbrev Always : (List Source → List (Package Span) → List (List ℕ × FileText) → List ℕ → Type 0) → Type 0
Always P =
    (files : List Source) (ps : List (Package Span)) (texts : List (List ℕ × FileText)) (only : List ℕ)
    → P files ps texts only

-- Looking for the first free use leaves a program where it stands on its way.
abbrev pub FirstUsesStayOnTheWay : Type 0
FirstUsesStayOnTheWay = Always FirstUsesStayOn

-- What is found is the use that the run takes next, as steps over it ask.
abbrev pub FirstUsesAreFound : Type 0
FirstUsesAreFound = Always FirstUsesAreRight

-- The step over it comes next.
abbrev pub FoundUsesComeNext : Type 0
FoundUsesComeNext = Always RightUsesComeNext

-- After it the next program stands on the way.
abbrev pub StepsStayOnTheWay : Type 0
StepsStayOnTheWay = Always StepsStayOn

-- So do the names of the package's block in which it is made.
abbrev pub BlocksStayOnTheWay : Type 0
BlocksStayOnTheWay = Always BlocksStayOn

-- A program without a free use is at its end.
abbrev pub RunsEnd : Type 0
RunsEnd = Always EndsRun
