use Rattle.std.proofs.Common.{ap}
use Rattle.go_tree.specs.declared.stmts.ArmList.{roll-ArmList, out-roll-ArmList}
use Rattle.go_tree.proofs.ListLemmas.{arms_made}
use Rattle.go_tree.proofs.stmts.ArmList.of.Goals as goal

pub returns-clause-made : goal.returns-clause-made
returns-clause-made c = arms_made (roll-ArmList record { items = c.args.v }) c.args.v (ap (λ x. x.items) (out-roll-ArmList record { items = c.args.v }))
