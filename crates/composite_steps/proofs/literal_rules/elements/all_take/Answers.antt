use Rattle.composite_steps.proofs.LiteralRules.ElementLemmas.{element_item}
use Rattle.composite_steps.proofs.literal_rules.elements.all_take.Goals as goal

pub takes-requires-clause-operand : goal.takes-requires-clause-operand
takes-requires-clause-operand c =
    (element_item c.args.env.now c.args.consts.now c.args.elements.now c.loop-x.x-index _ c.requires.elements
    c.loop-x-test.true).value
