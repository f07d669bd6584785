use Rattle.std.proofs.Common.{◌≡◌, ◌≤◌, length, map}
use Rattle.go_tree.specs.View.{arm_of}
use Rattle.go_productions.specs.Cursors.{ahead}
use Rattle.go_read.specs.SpellsSpans.{span_to}
use Rattle.go_read.specs.Goals.{read_if}
use Rattle.go_read.specs.Reading.{at}
use Rattle.go_productions.specs.Parts.{in_front}
use Rattle.go_statements.specs.StmtParts.{arm_and}
use Rattle.go_statements.proofs.branches.if_stmt.Given as goal

abbrev pub invariant-loop-arms : goal.invariant-loop-arms
invariant-loop-arms g l =
    (in_front arm_and (map arm_of l.arms.items) (at span_to read_if (ahead l.left)) ≡ at span_to read_if (ahead l.fn.place.at)) × (length (ahead l.left) ≤ length (ahead l.fn.place.at))

abbrev pub decreases-loop-arms : goal.decreases-loop-arms
decreases-loop-arms g l = length (ahead l.left)
