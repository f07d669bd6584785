use Rattle.argument_cycles.proofs.ImportingSteps.AddedSteps.{block_put, literal_put, expression_put}
use Rattle.argument_cycles.proofs.importing_steps.laws.added_steps_put_through.Goals as goal

pub returns-clause-blocks : goal.returns-clause-blocks
returns-clause-blocks c = λ marks st l after n reads k. block_put marks st l after n reads k

pub returns-clause-literals : goal.returns-clause-literals
returns-clause-literals c = λ marks st l after n reads k. literal_put marks st l after n reads k

pub returns-clause-expressions : goal.returns-clause-expressions
returns-clause-expressions c = λ marks st l after n reads k. expression_put marks st l after n reads k
