use Rattle.std.proofs.Common.{ap}
use Rattle.go_tree.specs.declared.stmts.CaseList.{roll-CaseList, out-roll-CaseList}
use Rattle.go_tree.proofs.ListLemmas.{cases_made}
use Rattle.go_tree.proofs.stmts.CaseList.of.Goals as goal

pub returns-clause-made : goal.returns-clause-made
returns-clause-made c = cases_made (roll-CaseList record { items = c.args.v }) c.args.v (ap (λ x. x.items) (out-roll-CaseList record { items = c.args.v }))
