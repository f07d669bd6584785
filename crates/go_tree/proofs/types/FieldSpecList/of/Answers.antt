use Rattle.std.proofs.Common.{ap}
use Rattle.go_tree.specs.declared.types.FieldSpecList.{roll-FieldSpecList, out-roll-FieldSpecList}
use Rattle.go_tree.proofs.ListLemmas.{fields_made}
use Rattle.go_tree.proofs.types.FieldSpecList.of.Goals as goal

pub returns-clause-made : goal.returns-clause-made
returns-clause-made c = fields_made (roll-FieldSpecList record { items = c.args.v }) c.args.v (ap (λ x. x.items) (out-roll-FieldSpecList record { items = c.args.v }))
