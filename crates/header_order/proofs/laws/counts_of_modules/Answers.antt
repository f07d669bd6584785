use Rattle.header_order.proofs.ModuleLemmas.{counts_of_modules}
use Rattle.header_order.proofs.laws.counts_of_modules.Goals as goal

pub returns : goal.returns
returns c = counts_of_modules c.one_order_at_most.ensures.unique
