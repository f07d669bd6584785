use Rattle.argument_cycles.proofs.FoundThere.Becoming.{block_added, literal_added, expression_added}
use Rattle.argument_cycles.proofs.found_there.laws.found_steps_put_their_forms.Goals as goal

pub returns-clause-blocks : goal.returns-clause-blocks
returns-clause-blocks c = λ marks st l after n h s own k. block_added marks st l after n h s own k

pub returns-clause-literals : goal.returns-clause-literals
returns-clause-literals c = λ marks st l after n h s own k. literal_added marks st l after n h s own k

pub returns-clause-expressions : goal.returns-clause-expressions
returns-clause-expressions c = λ marks st l after n h s own k. expression_added marks st l after n h s own k
