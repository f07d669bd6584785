use Rattle.argument_cycles.proofs.TypedBodies.TypedSteps.{block_free, literal_free, typed_block_step, typed_literal_step}
use Rattle.argument_cycles.proofs.typed_bodies.laws.typed_steps_keep_cycles.Goals as goal

pub returns-clause-blocks_free : goal.returns-clause-blocks_free
returns-clause-blocks_free c = λ marks st l after n k. block_free marks st l after n k

pub returns-clause-literals_free : goal.returns-clause-literals_free
returns-clause-literals_free c = λ marks st l after n k. literal_free marks st l after n k

pub returns-clause-blocks : goal.returns-clause-blocks
returns-clause-blocks c = λ marks st l after n h reads s b k m. typed_block_step marks st l after n k h reads s b m

pub returns-clause-literals : goal.returns-clause-literals
returns-clause-literals c = λ marks st l after n h reads s b k m. typed_literal_step marks st l after n k h reads s b m
