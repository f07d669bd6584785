-- The laws of constants that are declared as names of constants. Each is the contract of a function of this crate (Go
-- specification, Constant declarations; Qualified identifiers; Exported identifiers).
use Rattle.std.specs.Prelude.{◌≤◌, List, []}
use Rattle.constant_steps.specs.FormImports.OwnNames.{AllOwn}
use Rattle.go_translation.specs.SameMeaning.{WellTyped}
use Rattle.printed_constants.specs.TypedParts.MarkedRuns.NamedMarks.Named.{AllNamed}
use Rattle.printed_constants.specs.TypedParts.MarkedRuns.SettledConstants.Programs.{IsReady}
use Rattle.order_runs.specs.RunSteps.RunPackages.{packages_of}
use Rattle.run_rules.specs.Run.{Standing, Logged, Next, texts_size, the_limits}
use Rattle.run_rules.specs.Sites.{MarkRef}
use Rattle.printed_constants.specs.NamedUses.Names.{AllConstantsNames}
use Rattle.run_rules.specs.Printed.{ArePrinted}
use Rattle.printed_constants.specs.PrintedUses.Added.{IsNamedThere}

-- In a ready, well-typed program of constants and of functions that print them, whose packages have names of their own,
-- whose marks are of constants that are declared as names of constants, and whose texts are within the limit of a run,
-- the use of a step is such a name with the imports of its form added.
abbrev pub ConstantsNamesStand : Type 0
ConstantsNamesStand =
    (marks : List MarkRef) (st : Standing) (l : Logged) (after : Standing) (n : Next marks st l after) → IsReady st
    → WellTyped (packages_of st.packages []) → ArePrinted st.packages → AllOwn st.packages → AllNamed st.packages marks
    → AllConstantsNames st.packages marks → texts_size st.texts ≤ the_limits.total → IsNamedThere n

-- After it the marks are of such constants again.
abbrev pub StepsKeepConstantsNames : Type 0
StepsKeepConstantsNames =
    (marks : List MarkRef) (st : Standing) (l : Logged) (after : Standing) (n : Next marks st l after) → IsReady st
    → WellTyped (packages_of st.packages []) → ArePrinted st.packages → AllOwn st.packages → AllNamed st.packages marks
    → AllConstantsNames st.packages marks → texts_size st.texts ≤ the_limits.total
    → AllConstantsNames after.packages marks
