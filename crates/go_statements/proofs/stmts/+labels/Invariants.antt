use Rattle.std.proofs.Common.{◌+◌, ◌*◌, length}
use Rattle.go_productions.specs.Cursors.{ahead}
use Rattle.go_statements.proofs.stmts.+labels.Given as goal

abbrev pub decreases-stmt : goal.decreases-stmt
decreases-stmt g l = 2 * length (ahead l.place.at) + 1

abbrev pub decreases-word_stmt : goal.decreases-word_stmt
decreases-word_stmt g l = 2 * length (ahead l.place.at)
