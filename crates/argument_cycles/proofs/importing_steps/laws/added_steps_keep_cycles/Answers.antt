use Rattle.argument_cycles.proofs.ImportingSteps.AddedSteps.{block_step, literal_step, expression_step}
use Rattle.argument_cycles.proofs.importing_steps.laws.added_steps_keep_cycles.Goals as goal

pub returns-clause-blocks : goal.returns-clause-blocks
returns-clause-blocks c = λ marks st l after n h reads s b k m. block_step marks st l after n k h reads s b m

pub returns-clause-literals : goal.returns-clause-literals
returns-clause-literals c = λ marks st l after n h reads s b k m. literal_step marks st l after n k h reads s b m

pub returns-clause-expressions : goal.returns-clause-expressions
returns-clause-expressions c = λ marks st l after n h reads s b k m. expression_step marks st l after n k h reads s b m
