use Rattle.statement_walk.specs.RangeSteps.CaseSteps.Cases.{SeenSoFar}
use Rattle.statement_walk.proofs.RangeSteps.CaseSteps.CaseLemmas.{all_constants, constants_from}
use Rattle.statement_walk.proofs.range_steps.case_steps.constants.add_values.Given as goal

abbrev pub invariant-loop-x : goal.invariant-loop-x
invariant-loop-x l =
    SeenSoFar (all_constants l.tables.env l.tables.consts l.xs) (constants_from l.tables.env l.tables.consts l.xs l.x-index)
    l.initial.seen l.seen
