use Rattle.argument_cycles.proofs.LiteralSteps.{puts_literal, placed_literal_step}
use Rattle.argument_cycles.proofs.laws.placed_literal_steps_keep_cycles.Goals as goal

pub returns-clause-puts : goal.returns-clause-puts
returns-clause-puts c = λ marks st l after n reads k. puts_literal marks st l after n k reads

pub returns-clause-kept : goal.returns-clause-kept
returns-clause-kept c = λ marks st l after n h reads s b k m. placed_literal_step marks st l after n k h reads s b m
