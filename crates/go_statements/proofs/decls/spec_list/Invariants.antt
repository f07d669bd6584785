use Rattle.std.proofs.Common.{◌≡◌, ◌≤◌, length, map}
use Rattle.go_tree.specs.View.{var_spec_of}
use Rattle.go_productions.specs.Cursors.{ahead}
use Rattle.go_read.specs.SpellsSpans.{span_to}
use Rattle.go_read.specs.Goals.{read_specs}
use Rattle.go_read.specs.Reading.{at}
use Rattle.go_productions.specs.Parts.{in_front}
use Rattle.go_statements.specs.StmtParts.{spec_and}
use Rattle.go_statements.proofs.decls.spec_list.Given as goal

abbrev pub invariant-loop-items : goal.invariant-loop-items
invariant-loop-items g l =
    (in_front spec_and (map var_spec_of l.items.items) (at span_to (read_specs l.constant) (ahead l.left)) ≡ at span_to (read_specs l.fn.constant) (ahead l.fn.place.at)) × (length (ahead l.left) ≤ length (ahead l.fn.place.at))

abbrev pub decreases-loop-items : goal.decreases-loop-items
decreases-loop-items g l = length (ahead l.left)
