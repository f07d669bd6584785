use mathlib.Core.Path.{sym, subst, ◌∙◌}
use Rattle.operand_modes.specs.Lists.{AreRead}
use Rattle.operand_modes.proofs.SpreadLemmas.{none_left, read_all, read_step, read_stop}
use Rattle.statement_walk.proofs.range_steps.case_steps.values.own_values.Goals as goal

pub returns-in-None : goal.returns-in-None
returns-in-None c =
    read_stop c.args.operands.now c.loop-operand.operand-index _ c.loop-operand.values.items c.loop-operand-test.true
    (sym c.single_value.ensures ∙ c.in-None.is) c.loop-operand.invariant

pub loop-operand-preserved : goal.loop-operand-preserved
loop-operand-preserved c =
    subst (AreRead c.args.operands.now _) (sym c.in_ok-push-in-Some.ensures.items)
    (read_step c.args.operands.now c.loop-operand.operand-index _ c.loop-operand.values.items c.in-Some.x
    c.loop-operand-test.true (sym c.single_value.ensures ∙ c.in-Some.is) c.loop-operand.invariant)

pub returns : goal.returns
returns c =
    read_all c.args.operands.now c.loop-operand.values.items
    (subst (λ rest. AreRead c.args.operands.now rest c.loop-operand.values.items)
    (none_left c.args.operands.now c.loop-operand.operand-index c.loop-operand-test.false) c.loop-operand.invariant)
