use Rattle.expr_walk.proofs.WalkArms.ExprArms.{at}
use Rattle.initial_values.specs.Steps.{IsPassed}
use Rattle.initial_values.proofs.PassedLemmas.{rest_constant}
use Rattle.initial_values.proofs.constant.constant_from.Given as goal

abbrev pub invariant-loop-number : goal.invariant-loop-number
invariant-loop-number l =
    IsPassed l.initial.tables l.tables l.blocks l.scope
    (rest_constant (at l.initial.tables l.blocks l.scope) l.es l.first)
    (rest_constant (at l.initial.tables l.blocks l.scope) l.es l.number)
