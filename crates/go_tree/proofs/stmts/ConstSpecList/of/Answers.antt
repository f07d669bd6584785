use Rattle.std.proofs.Common.{ap}
use Rattle.go_tree.specs.declared.stmts.ConstSpecList.{roll-ConstSpecList, out-roll-ConstSpecList}
use Rattle.go_tree.proofs.ListLemmas.{const_specs_made}
use Rattle.go_tree.proofs.stmts.ConstSpecList.of.Goals as goal

pub returns-clause-made : goal.returns-clause-made
returns-clause-made c = const_specs_made (roll-ConstSpecList record { items = c.args.v }) c.args.v (ap (λ x. x.items) (out-roll-ConstSpecList record { items = c.args.v }))
