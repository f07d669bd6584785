use Rattle.argument_cycles.proofs.FreeSteps.{block_placed, literal_placed, free_block_step, free_literal_step}
use Rattle.argument_cycles.proofs.laws.free_steps_keep_cycles.Goals as goal

pub returns-clause-blocks_placed : goal.returns-clause-blocks_placed
returns-clause-blocks_placed c = λ marks st l after n k. block_placed marks st l after n k

pub returns-clause-literals_placed : goal.returns-clause-literals_placed
returns-clause-literals_placed c = λ marks st l after n k. literal_placed marks st l after n k

pub returns-clause-blocks : goal.returns-clause-blocks
returns-clause-blocks c = λ marks st l after n h reads s b k m. free_block_step marks st l after n k h reads s b m

pub returns-clause-literals : goal.returns-clause-literals
returns-clause-literals c = λ marks st l after n h reads s b k m. free_literal_step marks st l after n k h reads s b m
