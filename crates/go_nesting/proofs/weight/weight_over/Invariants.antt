use Rattle.std.proofs.Common.{◌≡◌, [], ◌∷◌, drop}
use Rattle.go_nesting.specs.Frames.{counts_of, IsSound}
use Rattle.go_nesting.specs.Over.{first_over}
use Rattle.go_nesting.proofs.weight.weight_over.Given as goal

abbrev pub invariant-loop-i : goal.invariant-loop-i
invariant-loop-i l = IsSound l.counts × (first_over l.limit (counts_of l.counts) (drop l.i l.tokens.items) ≡ first_over l.limit (0 ∷ []) l.tokens.items)
