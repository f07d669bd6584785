-- The laws of steps over marked constants that keep what names and keys mean. Each is the contract of a function of
-- this crate (Go specification, Import declarations; Composite literals; Constant declarations).
use Rattle.std.specs.Prelude.{List, []}
use Rattle.go_translation.specs.SameMeaning.{WellTyped}
use Rattle.run_rules.specs.Run.{Standing, Logged, Next}
use Rattle.run_rules.specs.Sites.{MarkRef}
use Rattle.order_runs.specs.CycleRuns.Linked.{WritesFile}
use Rattle.order_runs.specs.CycleRuns.OrderCycles.NewNames.{AvoidsFew}
use Rattle.order_runs.specs.RunSteps.RunPackages.{packages_of}
use Rattle.printed_constants.specs.TypedParts.MarkedRuns.NamedMarks.Named.{AllNamed}
use Rattle.printed_constants.specs.TypedParts.MarkedRuns.SettledConstants.Programs.{IsReady}
use Rattle.constant_modules.specs.KeyedImports.Steps.{KeepsUses, KeepsImportUses, RemovesNoValueKey}
use Rattle.constant_modules.specs.KeyedImports.Steps.{IsOverNameKeyed}
use Rattle.constant_modules.specs.NamedAnywhere.Puts.{PutsNameThere}

-- A step that puts a constant's name, in a program that is ready and well typed, keeps what names and keys mean where
-- it writes its file, few names are avoided, and no import that goes has the name of a key that is predeclared as a
-- value.
abbrev pub StepsKeepUses : Type 0
StepsKeepUses =
    (marks : List MarkRef) (st : Standing) (l : Logged) (after : Standing) (n : Next marks st l after) → IsReady st
    → WellTyped (packages_of st.packages []) → PutsNameThere n → AvoidsFew st.packages n.found → WritesFile n
    → RemovesNoValueKey n → KeepsUses n

-- A step over a marked constant that does writes its file, and no imports lead to a cycle, before it and after,
abbrev pub KeyedStepsWrite : Type 0
KeyedStepsWrite =
    (marks : List MarkRef) (st : Standing) (l : Logged) (after : Standing) (n : Next marks st l after) → IsReady st
    → AllNamed st.packages marks → IsOverNameKeyed n → WritesFile n × KeepsImportUses n

-- and after it each mark is that of a constant that is declared as a name again.
abbrev pub KeyedStepsKeepNamed : Type 0
KeyedStepsKeepNamed =
    (marks : List MarkRef) (st : Standing) (l : Logged) (after : Standing) (n : Next marks st l after) → IsReady st
    → AllNamed st.packages marks → IsOverNameKeyed n → AllNamed after.packages marks
