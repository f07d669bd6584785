-- Runs each of whose steps keeps which marked functions lie on a cycle, whatever its form is (Go specification, Calls;
-- Import declarations; Program initialization and execution).
use Rattle.std.specs.Prelude.{List}
use Rattle.run_rules.specs.Sites.{MarkRef}
use Rattle.run_rules.specs.Run.{Standing, Logged, Next, Run, ends, goes_on}
use Rattle.order_runs.specs.CycleRuns.Linked.{SettlesFile, PutsWhatStood}
use Rattle.literal_cycles.specs.FormCycles.Bodies.{ChangesBody, DeclGivesWay}

-- A step's form has the facts of what stood there, wherever it stands, and calls it, but that what was used gives way;
-- or it stands in the body of a function, and the function calls what it called, but that what was used gives way.
pub data GivesWay {marks : List MarkRef} {st : Standing} {l : Logged} {after : Standing} (n : Next marks st l after) :
    Type 0 where
  puts_what_stood : PutsWhatStood n → GivesWay n
  changes_a_body : ChangesBody n → DeclGivesWay n → GivesWay n

-- so does each step of a run, and each settles its file
abbrev pub AllSettled : {marks : List MarkRef} {st last : Standing} {log : List Logged} → Run marks st log last → Type 0
AllSettled (ends st over) = Unit {0}
AllSettled (goes_on st next last l log n run) = SettlesFile n × (GivesWay n × AllSettled run)
