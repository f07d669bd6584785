use Rattle.std.proofs.Common.{◌≡◌, ◌≤◌, length, map}
use Rattle.go_tree.specs.View.{case_of}
use Rattle.go_productions.specs.Cursors.{ahead}
use Rattle.go_read.specs.SpellsSpans.{span_to}
use Rattle.go_read.specs.Goals.{read_cases}
use Rattle.go_read.specs.Reading.{at}
use Rattle.go_productions.specs.Parts.{in_front}
use Rattle.go_statements.specs.StmtParts.{case_and}
use Rattle.go_statements.proofs.branches.case_list.Given as goal

abbrev pub invariant-loop-left : goal.invariant-loop-left
invariant-loop-left g l =
    (in_front case_and (map case_of l.items.items) (at span_to read_cases (ahead l.left)) ≡ at span_to read_cases (ahead l.fn.place.at)) × (length (ahead l.left) ≤ length (ahead l.fn.place.at))

abbrev pub decreases-loop-left : goal.decreases-loop-left
decreases-loop-left g l = length (ahead l.left)
