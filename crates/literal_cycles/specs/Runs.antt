-- Runs each of whose steps keeps which marked functions lie on a cycle: what is put has the facts of what stood there,
-- or a body gives way, or a literal or the body of its function is put for a call (Go specification, Calls; Function
-- literals; Import declarations).
use Rattle.std.specs.Prelude.{List}
use Rattle.run_rules.specs.Sites.{MarkRef}
use Rattle.run_rules.specs.Run.{Standing, Logged, Next, Run, ends, goes_on}
use Rattle.order_runs.specs.CycleRuns.Linked.{SettlesFile}
use Rattle.literal_cycles.specs.FormCycles.Bodies.{StandsInFunction}
use Rattle.literal_cycles.specs.FormCycles.Runs.{GivesWay}
use Rattle.literal_cycles.specs.Uses.{PutsLiteral}
use Rattle.literal_cycles.specs.BodyForms.Steps.{PutsBody, PutsBlock, PutsExpression}

-- A step gives way, as form_cycles has it, or puts a literal in a function, or, as body_forms has it, a body.
pub data KeepsCycles {marks : List MarkRef} {st : Standing} {l : Logged} {after : Standing} (n : Next marks st l after)
    : Type 0 where
  gives_way : GivesWay n → KeepsCycles n
  puts_literal : StandsInFunction n → PutsLiteral n → KeepsCycles n
  puts_body : StandsInFunction n → PutsBody n → KeepsCycles n
  puts_block : StandsInFunction n → PutsBlock n → KeepsCycles n
  puts_expression : StandsInFunction n → PutsExpression n → KeepsCycles n

-- so does each step of a run, and each settles its file
abbrev pub AllKeepCycles : {marks : List MarkRef} {st last : Standing} {log : List Logged} → Run marks st log last
    → Type 0
AllKeepCycles (ends st over) = Unit {0}
AllKeepCycles (goes_on st next last l log n run) = SettlesFile n × (KeepsCycles n × AllKeepCycles run)
