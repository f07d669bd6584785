use Rattle.std.proofs.Common.{◌≡◌, ◌≤◌, ◌∷◌, length, map}
use Rattle.go_tree.specs.View.{param_of}
use Rattle.go_productions.specs.Cursors.{ahead}
use Rattle.go_productions.specs.Parts.{in_front, params_at}
use Rattle.go_productions.proofs.signatures.param_list.Given as goal

abbrev pub invariant-loop-more : goal.invariant-loop-more
invariant-loop-more l = (in_front (λ x xs. x ∷ xs) (map param_of l.params.items) (params_at l.variadic l.named (ahead l.left)) ≡ params_at l.fn.variadic l.fn.named (ahead l.fn.tokens)) × (length (ahead l.left) ≤ length (ahead l.fn.tokens))

abbrev pub decreases-loop-more : goal.decreases-loop-more
decreases-loop-more l = length (ahead l.left)
