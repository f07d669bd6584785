use Rattle.std.proofs.Common.{◌≡◌, ◌≤◌, ◌∷◌, length, map}
use Rattle.go_tree.specs.View.{name_at_of}
use Rattle.go_productions.specs.Cursors.{ahead}
use Rattle.go_read.specs.SpellsSpans.{span_to}
use Rattle.go_read.specs.Goals.{read_names}
use Rattle.go_read.specs.Reading.{at}
use Rattle.go_productions.specs.Parts.{in_front}
use Rattle.go_productions.proofs.name_lists.names.Given as goal

abbrev pub invariant-loop-names : goal.invariant-loop-names
invariant-loop-names l = (in_front (λ x xs. x ∷ xs) (map name_at_of l.names.items) (at span_to read_names (ahead l.left)) ≡ at span_to read_names (ahead l.fn.tokens)) × (length (ahead l.left) ≤ length (ahead l.fn.tokens))

abbrev pub decreases-loop-names : goal.decreases-loop-names
decreases-loop-names l = length (ahead l.left)
