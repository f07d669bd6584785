use Rattle.argument_cycles.proofs.TypedMethods.MethodSteps.{methods_block_put, methods_literal_put, methods_block_step, methods_literal_step}
use Rattle.argument_cycles.proofs.typed_methods.laws.typed_method_steps_keep_cycles.Goals as goal

pub returns-clause-blocks_put : goal.returns-clause-blocks_put
returns-clause-blocks_put c = λ marks st l after n reads k. methods_block_put marks st l after n reads k

pub returns-clause-literals_put : goal.returns-clause-literals_put
returns-clause-literals_put c = λ marks st l after n reads k. methods_literal_put marks st l after n reads k

pub returns-clause-blocks : goal.returns-clause-blocks
returns-clause-blocks c = λ marks st l after n h reads s b k m. methods_block_step marks st l after n k h reads s b m

pub returns-clause-literals : goal.returns-clause-literals
returns-clause-literals c = λ marks st l after n h reads s b k m. methods_literal_step marks st l after n k h reads s b m
