use Rattle.std.proofs.Common.{arith}
use Rattle.operator_rules.proofs.AccessRules.CallLemmas.{value_item}
use Rattle.composite_steps.proofs.builtin_steps.printing.all_printed.Goals as goal

pub is_printed-requires-clause-value : goal.is_printed-requires-clause-value
is_printed-requires-clause-value c =
    value_item c.args.env.now c.args.consts.now c.args.xs.now c.loop-x.x-index _ c.requires.values (omega arith)
