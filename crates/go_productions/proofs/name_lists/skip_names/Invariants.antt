use Rattle.std.proofs.Common.{◌≡◌, ◌≤◌, length}
use Rattle.go_productions.specs.Cursors.{ahead}
use Rattle.go_productions.specs.Parts.{skipped}
use Rattle.go_productions.proofs.name_lists.skip_names.Given as goal

abbrev pub invariant-loop-left : goal.invariant-loop-left
invariant-loop-left l = (skipped (ahead l.left) ≡ skipped (ahead l.fn.tokens)) × (length (ahead l.left) ≤ length (ahead l.fn.tokens))

abbrev pub decreases-loop-left : goal.decreases-loop-left
decreases-loop-left l = length (ahead l.left)
