use Rattle.argument_cycles.proofs.BraceSteps.{puts_placed, placed_block_step}
use Rattle.argument_cycles.proofs.laws.placed_block_steps_keep_cycles.Goals as goal

pub returns-clause-puts : goal.returns-clause-puts
returns-clause-puts c = λ marks st l after n reads k. puts_placed marks st l after n k reads

pub returns-clause-kept : goal.returns-clause-kept
returns-clause-kept c = λ marks st l after n h reads s b k m. placed_block_step marks st l after n k h reads s b m
