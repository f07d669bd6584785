-- The laws of steps over aliases that change imports and the order of packages, and of runs of such steps and of those
-- over constants. Each is the contract of a function of this crate (Go specification, Alias declarations; Import
-- declarations; Packages; Program initialization; Program execution).
use Rattle.std.specs.Prelude.{Bool, ℕ, List}
use Rattle.go_tree.specs.declared.spans.Span.{Span}
use Rattle.pkg_graph.specs.Package as run
use Rattle.pkg_graph.specs.Reads.{Source}
use Rattle.go_kernel.specs.Kernel.{FuncName}
use Rattle.go_translation.specs.SameMeaning.{Packages, SameMeaning}
use Rattle.run_rules.specs.Sites.{MarkRef}
use Rattle.run_rules.specs.Texts.{FileText}
use Rattle.run_rules.specs.Respanned.{packages_with}
use Rattle.run_rules.specs.Run.{Standing, Logged, here_of, Next, Run}
use Rattle.run_rules.specs.Inlining.{ModuleReads, standing_as_read}
use Rattle.order_runs.specs.RunSteps.RunPackages.{packages_of}
use Rattle.order_runs.specs.RunSteps.SameCode.{SameCode}
use Rattle.order_runs.specs.SameProgram.{SameProgram}
use Rattle.alias_runs.specs.ImportingAliases.{ImportingAliasStep, ImportingNamesRun}
use Rattle.alias_runs.specs.AliasNext.{IsImportingAlias, EachIsName}

-- A step over an alias that changes imports keeps the kernel program beside all further packages.
abbrev pub AliasStepsKeepTheCode : Type 0
AliasStepsKeepTheCode =
    (same : Span → Span → Bool) (P P' : Packages Span) → ImportingAliasStep same P P' → SameCode P P'

-- So do any number of such steps and of steps over constants, in any order.
abbrev pub NamesRunsKeepTheCode : Type 0
NamesRunsKeepTheCode =
    (same : Span → Span → Bool) (P P' : Packages Span) → ImportingNamesRun same P P' → SameCode P P'

-- So the packages after mean what the first do.
abbrev pub NamesRunsMeanTheSame : Type 0
NamesRunsMeanTheSame =
    (same : Span → Span → Bool) (P P' : Packages Span) → ImportingNamesRun same P P' → SameMeaning P P'

-- A step of a run over an alias leaves packages that are one program with those before, beside all further packages, in
-- whatever order they stand.
abbrev pub AliasStepsKeepTheProgram : Type 0
AliasStepsKeepTheProgram =
    (marks : List MarkRef) (st : Standing) (l : Logged) (after : Standing) (n : Next marks st l after) →
    IsImportingAlias n → (marked : List FuncName) →
    SameProgram (packages_of st.packages marked) (packages_of after.packages marked)

-- So the program after it, whose file is read again, means what the one before does.
abbrev pub AliasStepsMeanTheSame : Type 0
AliasStepsMeanTheSame =
    (marks : List MarkRef) (st : Standing) (l : Logged) (after : Standing) (n : Next marks st l after) →
    IsImportingAlias n → (marked : List FuncName) →
    SameMeaning (packages_of st.packages marked) (packages_of after.packages marked)

-- So does the last program of a run of steps over constants and aliases, from files that read as a module: its trees as
-- they stand in the new texts mean what those of the module do.
abbrev pub RunsOverNamesMeanTheSame : Type 0
RunsOverNamesMeanTheSame =
    (files : List Source) (ps : List (run.Package Span)) (texts : List (List ℕ × FileText)) (marks : List MarkRef)
    (last : Standing) (log : List Logged) → ModuleReads files ps texts →
    (run : Run marks (standing_as_read ps texts) log last) → EachIsName run → (marked : List FuncName) →
    SameMeaning (packages_of ps marked) (packages_of (packages_with here_of last.packages) marked)
