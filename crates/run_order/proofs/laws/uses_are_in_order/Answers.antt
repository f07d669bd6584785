use Rattle.run_order.proofs.UsesInOrder.{uses-ascend}
use Rattle.run_order.proofs.FirstFree.{takes-first}
use Rattle.run_order.proofs.laws.uses_are_in_order.Goals as goal

pub returns-clause-listed : goal.returns-clause-listed
returns-clause-listed c = λ marks st reads. uses-ascend marks st reads

pub returns-clause-steps : goal.returns-clause-steps
returns-clause-steps c = λ marks st l after n reads. takes-first marks st l after n reads
