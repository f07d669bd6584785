use Rattle.composite_steps.proofs.LiteralRules.ElementLemmas.{element_item, no_such}
use Rattle.composite_steps.proofs.literal_rules.maps.have_keys.Goals as goal

pub has_key-requires-clause-element : goal.has_key-requires-clause-element
has_key-requires-clause-element c =
    element_item c.args.env.now c.args.consts.now c.args.elements.now c.loop-x.x-index no_such c.requires.elements
    c.loop-x-test.true
