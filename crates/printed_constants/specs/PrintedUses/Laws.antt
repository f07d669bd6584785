-- The laws of uses among constants and functions that print them. Each is the contract of a function of this crate (Go
-- specification, Constant declarations; Operands; Qualified identifiers).
use Rattle.std.specs.Prelude.{◌≡◌, ◌≤◌, List, [], Contains}
use Rattle.constant_steps.specs.FormImports.OwnNames.{AllOwn}
use Rattle.go_tree.specs.Tree.{Expr}
use Rattle.go_translation.specs.SameMeaning.{WellTyped}
use Rattle.order_runs.specs.RunSteps.RunPackages.{packages_of}
use Rattle.printed_constants.specs.TypedParts.MarkedRuns.KeptMarks.Over.{IsOverName}
use Rattle.printed_constants.specs.TypedParts.MarkedRuns.LinkedMembers.Laws.{HaveFiles}
use Rattle.printed_constants.specs.TypedParts.MarkedRuns.Marked.{StandsAdded}
use Rattle.printed_constants.specs.TypedParts.MarkedRuns.NamedMarks.Named.{AllNamed}
use Rattle.pkg_graph.specs.Package.{Package}
use Rattle.run_rules.specs.Printed.{ArePrinted}
use Rattle.run_rules.specs.Run.{Standing, Logged, Next, texts_size, the_limits}
use Rattle.run_rules.specs.Sites.{MarkRef, Site, an_expr, sites}
use Rattle.run_rules.specs.Steps.{At}
use Rattle.printed_constants.specs.PrintedUses.Added.{IsNamedThere}
use Rattle.printed_constants.specs.TypedParts.MarkedRuns.SettledConstants.Programs.{IsReady}

-- Each use of such a program is an expression.
abbrev pub PrintedUsesAreExpressions : Type 0
PrintedUsesAreExpressions =
    (ps : List (Package At)) (marks : List MarkRef) → ArePrinted ps → (x : Site At) → Contains (sites ps marks) x
    → (e : Expr At) × (x.part ≡ an_expr e)

-- So a step is over a marked constant as kept_marks asks, where the program's texts are within the limit of a run.
abbrev pub PrintedStepsAreOver : Type 0
PrintedStepsAreOver =
    (marks : List MarkRef) (st : Standing) (l : Logged) (after : Standing) (n : Next marks st l after) → IsReady st
    → ArePrinted st.packages → AllOwn st.packages → AllNamed st.packages marks
    → texts_size st.texts ≤ the_limits.total → IsOverName n

-- Where with the imports of its form added the use is a name of a constant that is declared as another's name, it
-- stands as marked_runs asks (`StandsAdded`), in such a program that is ready and well typed, each of whose packages
-- has a file.
abbrev pub PrintedUsesStand : Type 0
PrintedUsesStand =
    (marks : List MarkRef) (st : Standing) (l : Logged) (after : Standing) (n : Next marks st l after)
    → IsReady st → WellTyped (packages_of st.packages []) → ArePrinted st.packages → HaveFiles st.packages
    → AllOwn st.packages → AllNamed st.packages marks → texts_size st.texts ≤ the_limits.total → IsNamedThere n
    → StandsAdded n
