-- Runs each of whose steps keeps which marked functions lie on a cycle: what a call becomes, in each form, has arguments
-- in the places of parameters, or the step is one of literal_cycles (Go specification, Calls; Blocks; Function
-- literals; Import declarations).
use Rattle.std.specs.Prelude.{List}
use Rattle.run_rules.specs.Sites.{MarkRef}
use Rattle.run_rules.specs.Run.{Standing, Logged, Next, Run, ends, goes_on}
use Rattle.order_runs.specs.CycleRuns.Linked.{SettlesFile}
use Rattle.literal_cycles.specs.FormCycles.Bodies.{StandsInFunction}
use Rattle.literal_cycles.specs.Runs.{KeepsCycles}
use Rattle.argument_cycles.specs.Braces.{PutsPlacedBlock}
use Rattle.argument_cycles.specs.FoundThere.Steps.{PutsFoundBlock, PutsFoundLiteral, PutsFoundExpression}
use Rattle.argument_cycles.specs.FreeSteps.{PutsFreeBlock, PutsFreeLiteral}
use Rattle.argument_cycles.specs.ImportingSteps.Puts.{PutsAddedBlock, PutsAddedLiteral, PutsAddedExpression}
use Rattle.argument_cycles.specs.Literals.{PutsPlacedLiteral}
use Rattle.argument_cycles.specs.TypedBodies.Steps.{PutsTypedBlock, PutsTypedLiteral}
use Rattle.argument_cycles.specs.TypedMethods.Methods.{PutsTypedMethodsBlock, PutsTypedMethodsLiteral}
use Rattle.argument_cycles.specs.Uses.{PutsPlaced}

-- A step over a call puts an expression, statements in braces or a literal with arguments in the places of parameters:
-- of a body whose callees are asked for, or known by names, in well-typed packages or by the types of methods; or it
-- adds imports besides, and the form that the use becomes with them is asked for, or found.
pub data PutsArgumentsPlaced {marks : List MarkRef} {st : Standing} {l : Logged} {after : Standing}
    (n : Next marks st l after) : Type 0 where
  an_expression : PutsPlaced n → PutsArgumentsPlaced n
  a_block : PutsPlacedBlock n → PutsArgumentsPlaced n
  a_literal : PutsPlacedLiteral n → PutsArgumentsPlaced n
  a_free_block : PutsFreeBlock n → PutsArgumentsPlaced n
  a_free_literal : PutsFreeLiteral n → PutsArgumentsPlaced n
  a_typed_block : PutsTypedBlock n → PutsArgumentsPlaced n
  a_typed_literal : PutsTypedLiteral n → PutsArgumentsPlaced n
  a_block_with_methods : PutsTypedMethodsBlock n → PutsArgumentsPlaced n
  a_literal_with_methods : PutsTypedMethodsLiteral n → PutsArgumentsPlaced n
  an_added_expression : PutsAddedExpression n → PutsArgumentsPlaced n
  an_added_block : PutsAddedBlock n → PutsArgumentsPlaced n
  an_added_literal : PutsAddedLiteral n → PutsArgumentsPlaced n
  a_found_expression : PutsFoundExpression n → PutsArgumentsPlaced n
  a_found_block : PutsFoundBlock n → PutsArgumentsPlaced n
  a_found_literal : PutsFoundLiteral n → PutsArgumentsPlaced n

-- A step does so in a function, or keeps cycles as literal_cycles has it.
pub data KeepsCallCycles {marks : List MarkRef} {st : Standing} {l : Logged} {after : Standing}
    (n : Next marks st l after) : Type 0 where
  keeps_cycles : KeepsCycles n → KeepsCallCycles n
  puts_arguments : StandsInFunction n → PutsArgumentsPlaced n → KeepsCallCycles n

-- so does each step of a run, and each settles its file
abbrev pub AllKeepCallCycles : {marks : List MarkRef} {st last : Standing} {log : List Logged} → Run marks st log last
    → Type 0
AllKeepCallCycles (ends st over) = Unit {0}
AllKeepCallCycles (goes_on st next last l log n run) = SettlesFile n × (KeepsCallCycles n × AllKeepCallCycles run)
