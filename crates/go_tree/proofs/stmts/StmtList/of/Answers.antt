use Rattle.std.proofs.Common.{refl}
use Rattle.go_tree.proofs.ListLemmas.{stmts_made}
use Rattle.go_tree.proofs.stmts.StmtList.of.Goals as goal

pub returns-clause-made : goal.returns-clause-made
returns-clause-made c = stmts_made _ c.args.v refl
