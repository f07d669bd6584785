-- The laws of steps and runs over constants that change imports and the order of packages. Each is the contract of a
-- function of this crate (Go specification, Import declarations; Packages; Program initialization; Program execution).
use Rattle.std.specs.Prelude.{ℕ, List}
use Rattle.go_tree.specs.declared.spans.Span.{Span}
use Rattle.pkg_graph.specs.Package as run
use Rattle.pkg_graph.specs.Reads.{Source}
use Rattle.go_kernel.specs.Kernel.{FuncName}
use Rattle.go_translation.specs.SameMeaning.{Packages, SameMeaning}
use Rattle.run_rules.specs.Sites.{MarkRef}
use Rattle.run_rules.specs.Texts.{FileText}
use Rattle.run_rules.specs.Respanned.{packages_with}
use Rattle.run_rules.specs.Run.{Standing, Logged, here_of, Next, Run}
use Rattle.run_rules.specs.Inlining.{ModuleReads, standing_as_read}
use Rattle.order_runs.specs.RunSteps.RunPackages.{packages_of}
use Rattle.order_runs.specs.ImportRuns.ImportingNext.{IsImporting}
use Rattle.order_runs.specs.SameProgram.{SameProgram}
use Rattle.order_runs.specs.ImportingRun.{EachImports}

-- Packages that are one program beside all further packages mean the same.
abbrev pub OneProgramMeansTheSame : Type 0
OneProgramMeansTheSame = (P P' : Packages Span) → SameProgram P P' → SameMeaning P P'

-- A step of a run over a constant that changes imports leaves packages that are one program with those before, beside
-- all further packages, in whatever order they stand.
abbrev pub StepsKeepTheProgram : Type 0
StepsKeepTheProgram =
    (marks : List MarkRef) (st : Standing) (l : Logged) (after : Standing) (n : Next marks st l after) → IsImporting n
    → (marked : List FuncName) → SameProgram (packages_of st.packages marked) (packages_of after.packages marked)

-- So the program after it, whose file is read again, means what the one before does.
abbrev pub StepsMeanTheSame : Type 0
StepsMeanTheSame =
    (marks : List MarkRef) (st : Standing) (l : Logged) (after : Standing) (n : Next marks st l after) → IsImporting n
    → (marked : List FuncName) → SameMeaning (packages_of st.packages marked) (packages_of after.packages marked)

-- So does the last program of a run of such steps, from files that read as a module: its trees as they stand in the
-- new texts mean what those of the module do.
abbrev pub RunsMeanTheSame : Type 0
RunsMeanTheSame =
    (files : List Source) (ps : List (run.Package Span)) (texts : List (List ℕ × FileText)) (marks : List MarkRef)
    (last : Standing) (log : List Logged) → ModuleReads files ps texts
    → (run : Run marks (standing_as_read ps texts) log last) → EachImports run → (marked : List FuncName)
    → SameMeaning (packages_of ps marked) (packages_of (packages_with here_of last.packages) marked)
