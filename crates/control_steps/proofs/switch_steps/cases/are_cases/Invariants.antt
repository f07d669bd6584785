use Rattle.std.proofs.Common.{drop}
use Rattle.control_steps.specs.SwitchSteps.Cases.{AreCompared}
use Rattle.control_steps.proofs.switch_steps.cases.are_cases.Given as goal

abbrev pub invariant-loop-x : goal.invariant-loop-x
invariant-loop-x l = AreCompared l.initial.tables l.tables l.tag l.xs (drop l.x-index l.xs)
