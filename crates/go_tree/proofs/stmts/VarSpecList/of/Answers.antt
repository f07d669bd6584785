use Rattle.std.proofs.Common.{ap}
use Rattle.go_tree.specs.declared.stmts.VarSpecList.{roll-VarSpecList, out-roll-VarSpecList}
use Rattle.go_tree.proofs.ListLemmas.{var_specs_made}
use Rattle.go_tree.proofs.stmts.VarSpecList.of.Goals as goal

pub returns-clause-made : goal.returns-clause-made
returns-clause-made c = var_specs_made (roll-VarSpecList record { items = c.args.v }) c.args.v (ap (λ x. x.items) (out-roll-VarSpecList record { items = c.args.v }))
