-- The laws of imports that are used. Each is the contract of a function of this crate (Go specification, Import
-- declarations; Qualified identifiers; Declarations and scope).
use Rattle.std.specs.Prelude.{◌≤◌, List, []}
use Rattle.constant_steps.specs.FormImports.OwnNames.{AllOwn}
use Rattle.go_translation.specs.Packages as translated
use Rattle.go_translation.specs.SameMeaning.{WellTyped}
use Rattle.order_runs.specs.CycleRuns.OrderCycles.Orders.{AllOrdered}
use Rattle.order_runs.specs.RunSteps.RunPackages.{members_of, packages_of}
use Rattle.printed_constants.specs.TypedParts.MarkedRuns.LinkedMembers.Laws.{ImportsUsed}
use Rattle.printed_constants.specs.TypedParts.MarkedRuns.NamedMarks.Named.{AllNamed}
use Rattle.printed_constants.specs.TypedParts.MarkedRuns.SettledConstants.Programs.{IsReady}
use Rattle.pkg_graph.specs.Package.{Package}
use Rattle.run_rules.specs.Run.{Standing, Logged, Next, texts_size, the_limits}
use Rattle.run_rules.specs.Sites.{MarkRef}
use Rattle.run_rules.specs.Steps.{At}
use Rattle.run_rules.specs.Printed.{ArePrinted}
use Rattle.printed_constants.specs.UsedImports.Uses.{LookUpImports}

-- In a well-typed program of constants and of functions that print them, each of whose packages stands in the
-- dependency order, the name of each import but `_` is looked up in its file.
abbrev pub TypedImportsAreLookedUp : Type 0
TypedImportsAreLookedUp =
    (ps : List (Package At)) → ArePrinted ps → AllOrdered ps → WellTyped (packages_of ps []) → LookUpImports ps

-- Where these names are, each import is used as typing has it, beside any further packages.
abbrev pub LookedUpImportsAreUsed : Type 0
LookedUpImportsAreUsed =
    (ps : List (Package At)) → ArePrinted ps → LookUpImports ps → (more : List (translated.Package At))
    → ImportsUsed more (members_of ps)

-- So in a ready, well-typed program of such declarations, whose packages have names of their own, whose marks are of
-- constants that are declared as names and whose texts are within the limit of a run, each import is used after a step.
abbrev pub StepsLeaveImportsUsed : Type 0
StepsLeaveImportsUsed =
    (marks : List MarkRef) (st : Standing) (l : Logged) (after : Standing) (n : Next marks st l after) → IsReady st
    → WellTyped (packages_of st.packages []) → ArePrinted st.packages → AllOwn st.packages → AllNamed st.packages marks
    → texts_size st.texts ≤ the_limits.total → (more : List (translated.Package At))
    → ImportsUsed more (members_of after.packages)
