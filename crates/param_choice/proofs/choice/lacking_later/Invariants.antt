use Rattle.std.proofs.Common.{ℕ, ◌<◌, IsTrue}
use Rattle.param_choice.specs.Chosen.{has}
use Rattle.param_choice.specs.Strikes.{ClashNeeds}
use Rattle.param_choice.proofs.choice.lacking_later.Given as goal

abbrev pub invariant-loop-i : goal.invariant-loop-i
invariant-loop-i l = (k : ℕ) → k < l.i → (j : ℕ) → IsTrue (has l.kept k) → ClashNeeds l.t k j → IsTrue (has l.kept j)
