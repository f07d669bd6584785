-- The laws of steps over marked constants. Each is the contract of a function of this crate (Go specification, Constant
-- declarations; Qualified identifiers; Import declarations).
use Rattle.std.specs.Prelude.{List}
use Rattle.order_runs.specs.CycleRuns.KeptImports.Files.{RemovesNoNames}
use Rattle.run_rules.specs.Sites.{MarkRef}
use Rattle.run_rules.specs.Run.{Standing, Logged, Next}
use Rattle.printed_constants.specs.TypedParts.MarkedRuns.NamedMarks.Named.{AllNamed}
use Rattle.printed_constants.specs.TypedParts.MarkedRuns.SettledConstants.Programs.{IsReady, IsOverConstant}
use Rattle.printed_constants.specs.TypedParts.MarkedRuns.KeptMarks.Over.{IsOverName}

-- Where each mark is that of a constant that is declared as a name, such a step is over a constant that is declared so,
-- as settled_constants has it, if no import that goes has the name of an identifier.
abbrev pub NamedStepsAreOver : Type 0
NamedStepsAreOver =
    (marks : List MarkRef) (st : Standing) (l : Logged) (after : Standing) (n : Next marks st l after)
    → AllNamed st.packages marks → IsOverName n → RemovesNoNames n → IsOverConstant n

-- And after it each mark is that of such a constant again.
abbrev pub StepsKeepNamed : Type 0
StepsKeepNamed =
    (marks : List MarkRef) (st : Standing) (l : Logged) (after : Standing) (n : Next marks st l after) → IsReady st
    → AllNamed st.packages marks → IsOverName n → AllNamed after.packages marks
