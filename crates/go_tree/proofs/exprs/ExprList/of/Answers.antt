use Rattle.std.proofs.Common.{refl}
use Rattle.go_tree.proofs.ListLemmas.{exprs_made}
use Rattle.go_tree.proofs.exprs.ExprList.of.Goals as goal

pub returns-clause-made : goal.returns-clause-made
returns-clause-made c = exprs_made _ c.args.v refl
