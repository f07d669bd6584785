use Rattle.std.proofs.Common.{◌≡◌, ◌≢◌, ℕ, ◌<◌, IsTrue, slice_index_or}
use Rattle.param_choice.specs.Chosen.{has}
use Rattle.param_choice.proofs.choice.lacking_named.Given as goal

abbrev pub invariant-loop-i : goal.invariant-loop-i
invariant-loop-i l =
    (k i j : ℕ) → k < l.i-index → slice_index_or l.i-items k (i, j) ≡ (i, j) → IsTrue (has l.kept i) → j ≢ i → IsTrue (has l.kept j)
