-- The laws of steps over unobstructed calls that add imports. Each is the contract of a function of this crate (Go
-- specification, Calls; Import declarations; Qualified identifiers).
use Rattle.std.specs.Prelude.{◌≡◌, List}
use Rattle.run_rules.specs.Cycles.{is_recursive}
use Rattle.run_rules.specs.Run.{Standing, Logged, Next}
use Rattle.run_rules.specs.Sites.{MarkRef}
use Rattle.splice_laws.specs.RunLaws.Reading.{ProgramReads}
use Rattle.order_runs.specs.CycleRuns.Linked.{Linked, SettlesFile}
use Rattle.literal_cycles.specs.FormCycles.Bodies.{StandsInFunction}
use Rattle.literal_cycles.specs.FormCycles.Puts.{PutsInBody}
use Rattle.argument_cycles.specs.ImportingSteps.Puts.{PutsAddedBlock, PutsAddedLiteral, PutsAddedExpression}

-- A step that puts such statements, where the files of the program read from their texts, puts in the function around
-- it what calls through, whatever imports it adds.
abbrev pub AddedBlocksArePut : Type 0
AddedBlocksArePut =
    (marks : List MarkRef) (st : Standing) (l : Logged) (after : Standing) (n : Next marks st l after)
    → ProgramReads st → PutsAddedBlock n → PutsInBody n

-- So it is of a literal.
abbrev pub AddedLiteralsArePut : Type 0
AddedLiteralsArePut =
    (marks : List MarkRef) (st : Standing) (l : Logged) (after : Standing) (n : Next marks st l after)
    → ProgramReads st → PutsAddedLiteral n → PutsInBody n

-- And so of an expression, or of its assignment to `_`.
abbrev pub AddedExpressionsArePut : Type 0
AddedExpressionsArePut =
    (marks : List MarkRef) (st : Standing) (l : Logged) (after : Standing) (n : Next marks st l after)
    → ProgramReads st → PutsAddedExpression n → PutsInBody n

-- So such a step in a function keeps which marked functions lie on a cycle.
abbrev pub AddedBlockStepsKeepCycles : Type 0
AddedBlockStepsKeepCycles =
    (marks : List MarkRef) (st : Standing) (l : Logged) (after : Standing) (n : Next marks st l after)
    → Linked st.packages → ProgramReads st → SettlesFile n → StandsInFunction n → PutsAddedBlock n
    → (m : MarkRef) → is_recursive st.packages marks m ≡ is_recursive after.packages marks m

-- So it is of a literal.
abbrev pub AddedLiteralStepsKeepCycles : Type 0
AddedLiteralStepsKeepCycles =
    (marks : List MarkRef) (st : Standing) (l : Logged) (after : Standing) (n : Next marks st l after)
    → Linked st.packages → ProgramReads st → SettlesFile n → StandsInFunction n → PutsAddedLiteral n
    → (m : MarkRef) → is_recursive st.packages marks m ≡ is_recursive after.packages marks m

-- And so of an expression.
abbrev pub AddedExpressionStepsKeepCycles : Type 0
AddedExpressionStepsKeepCycles =
    (marks : List MarkRef) (st : Standing) (l : Logged) (after : Standing) (n : Next marks st l after)
    → Linked st.packages → ProgramReads st → SettlesFile n → StandsInFunction n → PutsAddedExpression n
    → (m : MarkRef) → is_recursive st.packages marks m ≡ is_recursive after.packages marks m
