-- The law of the imports that a step removes. It is the contract of a function of this crate (Go specification, Import
-- declarations; Qualified identifiers; Declarations and scope).
use Rattle.std.specs.Prelude.{List}
use Rattle.order_runs.specs.CycleRuns.KeptImports.Files.{RemovesNoLookUps}
use Rattle.printed_constants.specs.TypedParts.MarkedRuns.NamedMarks.Named.{AllNamed}
use Rattle.run_rules.specs.Printed.{ArePrinted}
use Rattle.splice_laws.specs.RunLaws.Reading.{ProgramReads}
use Rattle.run_rules.specs.Run.{Standing, Logged, Next}
use Rattle.run_rules.specs.Sites.{MarkRef}

-- No import that a step over a constant removes has a name that is looked up in the file as it is read again, in a
-- program of constants and of functions that print them: it was used before, and such a name would use it still.
abbrev pub PrintedStepsRemoveNoLookUps : Type 0
PrintedStepsRemoveNoLookUps =
    (marks : List MarkRef) (st : Standing) (l : Logged) (after : Standing) (n : Next marks st l after)
    → ProgramReads st → ArePrinted st.packages → AllNamed st.packages marks → RemovesNoLookUps n
