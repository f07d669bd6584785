use Rattle.selector_steps.proofs.SelectorLemmas.{tuple_answer}
use Rattle.selector_steps.proofs.functions.tuple.Goals as goal

pub returns-clause-gives : goal.returns-clause-gives
returns-clause-gives c =
    tuple_answer c.args.tables.now.env c.added.new.tables.env c.added.ensures.keeps.types c.args.items c.requires.below
    c.added.result c.added.ensures.gives
