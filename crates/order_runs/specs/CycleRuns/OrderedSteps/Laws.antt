-- The laws of the dependency order. Each is the contract of a function of this crate (Go specification, Import
-- declarations; Program initialization and execution).
use Rattle.std.specs.Prelude.{ℕ, List}
use Rattle.go_tree.specs.declared.spans.Span.{Span}
use Rattle.pkg_graph.specs.Package.{Package}
use Rattle.pkg_graph.specs.Reads.{Source}
use Rattle.run_rules.specs.Sites.{MarkRef}
use Rattle.run_rules.specs.Texts.{FileText}
use Rattle.run_rules.specs.Steps.{At}
use Rattle.run_rules.specs.Run.{Standing, Logged, Next}
use Rattle.run_rules.specs.Inlining.{ModuleReads, standing_as_read}
use Rattle.order_runs.specs.CycleRuns.ImportCycles.ImportSteps.{packages_added}
use Rattle.order_runs.specs.CycleRuns.OrderCycles.Orders.{AllOrdered}
use Rattle.order_runs.specs.CycleRuns.OrderedSteps.Ranks.{OwnPaths, IsRanked, AddsLedTo, ImportsNoMore}

-- Where each package stands in the dependency order, packages can be ranked.
abbrev pub OrdersAreRanked : Type 0
OrdersAreRanked = (ps : List (Package At)) → AllOrdered ps → (rank : ℕ → ℕ) × IsRanked ps rank

-- Where packages can be ranked, each stands in the dependency order.
abbrev pub RankedAreOrdered : Type 0
RankedAreOrdered = (ps : List (Package At)) (rank : ℕ → ℕ) → IsRanked ps rank → AllOrdered ps

-- In a module that reads each package stands in the dependency order.
abbrev pub ReadModulesAreOrdered : Type 0
ReadModulesAreOrdered =
    (files : List Source) (ps : List (Package Span)) (texts : List (List ℕ × FileText)) → ModuleReads files ps texts
    → AllOrdered (standing_as_read ps texts).packages

-- And no two packages of it have one path.
abbrev pub ReadModulesHaveOwnPaths : Type 0
ReadModulesHaveOwnPaths =
    (files : List Source) (ps : List (Package Span)) (texts : List (List ℕ × FileText)) → ModuleReads files ps texts
    → OwnPaths (standing_as_read ps texts).packages

-- A step whose added imports are led to already keeps that each package stands in the dependency order, with the
-- imports added, and after it, if its file then imports no other path.
abbrev pub StepsKeepOrders : Type 0
StepsKeepOrders =
    (marks : List MarkRef) (st : Standing) (l : Logged) (after : Standing) (n : Next marks st l after)
    → OwnPaths st.packages → AllOrdered st.packages → AddsLedTo st.packages n.found → ImportsNoMore n
    → AllOrdered (packages_added st.packages n.found) × AllOrdered after.packages

-- Each step keeps that no two packages have one path.
abbrev pub StepsKeepPaths : Type 0
StepsKeepPaths =
    (marks : List MarkRef) (st : Standing) (l : Logged) (after : Standing) → Next marks st l after
    → OwnPaths st.packages → OwnPaths after.packages
