use Rattle.composite_steps.proofs.LiteralRules.ElementLemmas.{element_item, no_such}
use Rattle.composite_steps.proofs.literal_rules.structs.sets_fields.Goals as goal

pub sets_field-requires-clause-element : goal.sets_field-requires-clause-element
sets_field-requires-clause-element c =
    element_item c.args.env.now c.args.consts.now c.args.elements.now c.loop-x.x-index no_such c.requires.elements
    c.loop-x-test.true
