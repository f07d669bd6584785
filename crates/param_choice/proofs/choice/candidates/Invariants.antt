use Rattle.std.proofs.Common.{◌≡◌, ◌↔◌, ℕ, ◌<◌, IsTrue, length}
use Rattle.param_choice.specs.Chosen.{has}
use Rattle.param_choice.specs.Strikes.{Fits}
use Rattle.param_choice.proofs.choice.candidates.Given as goal

abbrev pub invariant-loop-i : goal.invariant-loop-i
invariant-loop-i l =
    (length l.kept.items ≡ l.i) × ((k : ℕ) → k < l.i → IsTrue (has l.kept.items k) ↔ Fits l.t l.constants k)
