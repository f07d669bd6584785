use Rattle.std.proofs.Common.{arith}
use Rattle.operator_rules.proofs.AccessRules.CallLemmas.{value_item}
use Rattle.operator_rules.proofs.access_rules.builtin_rules.elements.all_fit.Goals as goal

pub fits-requires-clause-value : goal.fits-requires-clause-value
fits-requires-clause-value c =
    value_item c.args.env.now c.args.consts.now c.args.xs.now c.loop-x.x-index _ c.requires.values (omega arith)
