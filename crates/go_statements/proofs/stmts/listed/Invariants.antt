use Rattle.std.proofs.Common.{◌≡◌, ◌≤◌, ◌+◌, ◌*◌, length, map}
use Rattle.go_tree.specs.View.{stmt_of}
use Rattle.go_tree.specs.Tree.{stmt_and}
use Rattle.go_productions.specs.Cursors.{ahead}
use Rattle.go_read.specs.SpellsSpans.{span_to}
use Rattle.go_read.specs.Goals.{read_stmts}
use Rattle.go_read.specs.Reading.{at}
use Rattle.go_productions.specs.Parts.{in_front}
use Rattle.go_productions.specs.Terminals.{first_of}
use Rattle.go_statements.proofs.StmtArms.{still}
use Rattle.go_statements.proofs.stmts.listed.Given as goal

abbrev pub invariant-loop-left : goal.invariant-loop-left
invariant-loop-left g l =
    (in_front stmt_and (map stmt_of l.items.items) (at span_to read_stmts (ahead l.left)) ≡ at span_to read_stmts (ahead l.fn.place.at)) × (length (ahead l.left) ≤ length (ahead l.fn.place.at))

abbrev pub decreases-loop-left : goal.decreases-loop-left
decreases-loop-left g l = 2 * length (ahead l.left) + still (first_of (ahead l.left))
