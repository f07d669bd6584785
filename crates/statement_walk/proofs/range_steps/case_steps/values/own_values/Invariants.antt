use Rattle.std.proofs.Common.{drop}
use Rattle.operand_modes.specs.Lists.{AreRead}
use Rattle.statement_walk.proofs.range_steps.case_steps.values.own_values.Given as goal

abbrev pub invariant-loop-operand : goal.invariant-loop-operand
invariant-loop-operand l = AreRead l.operands (drop l.operand-index l.operands) l.values.items
