use Rattle.argument_cycles.proofs.Steps.{puts_expression, placed_step}
use Rattle.argument_cycles.proofs.laws.placed_steps_keep_cycles.Goals as goal

pub returns-clause-kept : goal.returns-clause-kept
returns-clause-kept c = λ marks st l after n h reads s b k m. placed_step marks st l after n k h reads s b m

pub returns-clause-puts : goal.returns-clause-puts
returns-clause-puts c = λ marks st l after n k. puts_expression marks st l after n k
