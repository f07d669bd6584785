-- The laws of steps and of runs. Each is the contract of a function of this crate (Go specification, Constant
-- declarations; Packages; golang.org/x/tools, internal/refactor/inline, for what a run is; the limits are this
-- project's own).
use Rattle.std.specs.Prelude.{◌≡◌, ℕ, ◌+◌, ◌≤◌, true, List, [], Some, None, slice_get}
use Rattle.std.specs.List.{list_all}
use Rattle.go_translation.specs.SameMeaning.{WellTyped}
use Rattle.go_tree.specs.GoWords.Tokens.Characters.{each}
use Rattle.member_uses.specs.Laws.{AllConstants}
use Rattle.module_texts.specs.declared.modules.ReadModule.{ReadModule}
use Rattle.step_files.specs.Limits.{told}
use Rattle.order_runs.specs.RunSteps.RunPackages.{packages_of}
use Rattle.stepped_programs.specs.declared.package_search.looks.ProgramSources.{ProgramSources}
use Rattle.pkg_graph.specs.Reads.{Source}
use Rattle.pkg_graph.specs.Views.{package_view}
use Rattle.pkg_graph.specs.declared.packages.Package as code
use Rattle.file_names.specs.Members.{IsBlockOf}
use Rattle.constant_modules.specs.ConstantPrograms.Programs.{HasForm}
use Rattle.literal_tables.specs.HasTypes.{HasTypes}
use Rattle.run_rules.specs.Programs.{world}
use Rattle.programs.specs.declared.state.Program.{Program}
use Rattle.read_modules.specs.Modules.{packages_in, texts_in}
use Rattle.report_order.specs.declared.rows.ReportRow.{ReportRow}
use Rattle.run_by_steps.specs.Reached.{AllSupported}
use Rattle.stepped_programs.specs.RunReports.Laws.{IsLogged}
use Rattle.stepped_programs.specs.declared.run_reports.steps.LoggedStep.{LoggedStep}
use Rattle.run_rules.specs.Inlining.{IsTooLarge, ModuleReads}
use Rattle.run_rules.specs.Marks.{marks_of}
use Rattle.run_rules.specs.Run.{Standing, Logged, module_file_size, texts_size, the_limits}
use Rattle.splice_laws.specs.ImportSplices.AddedFile.{is_byte}
use Rattle.run_by_steps.specs.declared.step_counts.counts.StepCounts.{StepCounts}
use Rattle.stepped_programs.specs.FirstUses.First.{IsFirstUse}
use Rattle.stepped_programs.specs.FirstUses.StepLaws.{IsRightFirst}
use Rattle.stepped_programs.specs.LoadedPrograms.Loaded.{IsLoaded}
use Rattle.stepped_programs.specs.ProgramsOnTheWay.OnTheWay.{IsOnTheWay}
use Rattle.stepped_programs.specs.SearchedSites.OrderedSearches.Found.{IsFoundFirst}
use Rattle.stepped_programs.specs.declared.first_uses.first.FirstUse.{FirstUse}
use Rattle.run_plans.specs.declared.inlined_programs.faults.PassedIn.{PassedIn}
use Rattle.run_plans.specs.InlinedPrograms.Beginnings.{Beginning, marks_in, StandsAfter, BeginsRun}
use Rattle.run_plans.specs.InlinedPrograms.Runs.{HasMadeStep, StandsAtEnd, HasStopped, StopsBefore}
use Rattle.run_plans.specs.InlinedPrograms.Steps.{IsLogOf, MayBeTaken, HasTaken, HasNotTaken}

-- What is loaded of a module that reads begins a run, where the paths of its files are octets, its words are supported,
-- it is well typed and within the limit, it has the form whose constants are inlined, all its marks are of constants, and
-- the table of its types has those that it declares.
abbrev pub LoadedProgramsBeginRuns : Type 0
LoadedProgramsBeginRuns =
    (files : List Source) (m : ReadModule) (only : List ℕ) (p : Program)
    → ModuleReads files (packages_in m) (texts_in m) → list_all (λ f. each is_byte f.path) files ≡ true
    → AllSupported (texts_in m) → WellTyped (packages_of (packages_in m) []) → HasForm (packages_in m)
    → AllConstants (packages_in m) (marks_of (packages_in m) (texts_in m) only)
    → module_file_size files + texts_size (texts_in m) ≤ the_limits.total → IsLoaded files m only p
    → HasTypes (world (packages_in m)) p.types
    → BeginsRun (record { files = files; packages = packages_in m; texts = texts_in m; only = only }) p

-- ---- the first free use of a program on its run

-- The log tells of the step over it, and from where in its file as read the use comes.
abbrev pub StepsAreLogged : Type 0
StepsAreLogged =
    (b : Beginning) (done : List Logged) (st : Standing) (p : Program) (s : ProgramSources) (c : StepCounts)
    (u : FirstUse) (a : IsFoundFirst (marks_in b) st s u.home u.found) (l : LoggedStep)
    → IsOnTheWay b.files b.packages b.texts b.only done st p s c → IsRightFirst p a → IsLogOf p u l
    → IsLogged a l

-- The step over it may be made.
abbrev pub StepsMayBeTaken : Type 0
StepsMayBeTaken =
    (b : Beginning) (done : List Logged) (st : Standing) (old new : Program) (c : StepCounts) (u : FirstUse)
    → StandsAfter b done st old c → IsFirstUse old new (Some u) → MayBeTaken new c u

-- Once it is made, it is the next of the run.
abbrev pub TakenStepsComeNext : Type 0
TakenStepsComeNext =
    (b : Beginning) (done : List Logged) (st : Standing) (old new p : Program) (c d : StepCounts) (u : FirstUse)
    (places : List (List ℕ × ℕ)) (row : ReportRow) → StandsAfter b done st old c → IsFirstUse old new (Some u)
    → HasTaken new c u places row p d → HasMadeStep b done st places row p d

-- The block of its package is that of the program after it.
abbrev pub TakenStepsKeepBlocks : Type 0
TakenStepsKeepBlocks =
    (b : Beginning) (done : List Logged) (st : Standing) (old new p : Program) (c d : StepCounts) (u : FirstUse)
    (places : List (List ℕ × ℕ)) (row : ReportRow) → StandsAfter b done st old c → IsFirstUse old new (Some u)
    → HasTaken new c u places row p d → (home : code.Package) → slice_get p.packages.items u.home ≡ Some home
    → IsBlockOf u.found.tables.names.«package» (package_view home)

-- Where it passes a limit, the next of the run does.
abbrev pub LimitsStopRuns : Type 0
LimitsStopRuns =
    (b : Beginning) (done : List Logged) (st : Standing) (old new p : Program) (c d : StepCounts) (u : FirstUse)
    (at : PassedIn) → StandsAfter b done st old c → IsFirstUse old new (Some u) → HasNotTaken new c u at p d
    → HasStopped b done st at p d

-- Where there is none, the run is at its end.
abbrev pub SettledProgramsEndRuns : Type 0
SettledProgramsEndRuns =
    (b : Beginning) (done : List Logged) (st : Standing) (old new : Program) (c : StepCounts)
    → StandsAfter b done st old c → IsFirstUse old new None → StandsAtEnd b done st new c

-- ---- a whole run

-- Where it stops before a limit, the module passes that limit.
abbrev pub StoppedRunsAreTooLarge : Type 0
StoppedRunsAreTooLarge =
    (b : Beginning) (at : PassedIn) (p : Program) → StopsBefore b at p
    → IsTooLarge the_limits b.files b.packages b.texts b.only (told at.passed)
