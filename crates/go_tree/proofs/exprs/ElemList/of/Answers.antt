use Rattle.std.proofs.Common.{ap}
use Rattle.go_tree.specs.declared.exprs.ElemList.{roll-ElemList, out-roll-ElemList}
use Rattle.go_tree.proofs.ListLemmas.{elems_made}
use Rattle.go_tree.proofs.exprs.ElemList.of.Goals as goal

pub returns-clause-made : goal.returns-clause-made
returns-clause-made c = elems_made (roll-ElemList record { items = c.args.v }) c.args.v (ap (λ x. x.items) (out-roll-ElemList record { items = c.args.v }))
