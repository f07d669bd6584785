-- The laws of steps over constants that change imports, as a run takes them. Each is the contract of a function of this
-- crate (Go specification, Constant declarations; Import declarations; Packages; Program execution).
use Rattle.std.specs.Prelude.{◌≡◌, List}
use Rattle.go_tree.specs.declared.spans.Span.{Span}
use Rattle.pkg_graph.specs.Package as run
use Rattle.go_kernel.specs.Kernel.{FuncName}
use Rattle.run_rules.specs.Programs.{dependency_order}
use Rattle.run_rules.specs.Sites.{MarkRef}
use Rattle.run_rules.specs.Run.{Standing, Logged, Next}
use Rattle.order_runs.specs.RunSteps.RunPackages.{members_of, packages_of}
use Rattle.order_runs.specs.RunSteps.SameCode.{SameCode}
use Rattle.order_runs.specs.ImportCodes.PackagesMoved.{PackagesMoved}
use Rattle.order_runs.specs.ImportRuns.ImportingNext.{IsImporting, KeepsOrder}
use Rattle.order_runs.specs.ImportRuns.PathsUnder.{PathsUnder}

-- Packages of a run with the same declarations, where each name that these look up is that of the same import, or of
-- none, and in the same dependency order, are linked to packages of the same declarations under other imports.
abbrev pub RunPackagesAreMoved : Type 0
RunPackagesAreMoved =
    (ps qs : List (run.Package Span)) → PathsUnder ps qs → dependency_order qs ≡ dependency_order ps
    → PackagesMoved (members_of ps) (members_of qs)

-- A step of a run over a constant that changes imports, and not the order of packages, keeps the kernel program beside
-- all further packages.
abbrev pub ImportingNextsKeepTheCode : Type 0
ImportingNextsKeepTheCode =
    (marks : List MarkRef) (st : Standing) (l : Logged) (after : Standing) (n : Next marks st l after) → IsImporting n
    → KeepsOrder n → (marked : List FuncName)
    → SameCode (packages_of st.packages marked) (packages_of after.packages marked)
