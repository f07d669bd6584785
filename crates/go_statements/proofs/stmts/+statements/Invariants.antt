use Rattle.std.proofs.Common.{◌+◌, ◌*◌, length}
use Rattle.go_productions.specs.Cursors.{ahead}
use Rattle.go_statements.proofs.stmts.+statements.Given as goal

abbrev pub decreases-stmt_list : goal.decreases-stmt_list
decreases-stmt_list l = 4 * length (ahead l.tokens)

abbrev pub decreases-taken : goal.decreases-taken
decreases-taken l = 4 * length (ahead l.tokens) + 1

abbrev pub decreases-stmt_list-read : goal.decreases-stmt_list-read
decreases-stmt_list-read l = 4 * length (ahead l.inner) + 2
