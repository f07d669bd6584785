use Rattle.std.proofs.Common.{ℕ, ◌<◌, IsTrue}
use Rattle.param_choice.specs.Chosen.{has}
use Rattle.param_choice.specs.Strikes.{ClashNeeds}
use Rattle.param_choice.proofs.choice.lacks_later.Given as goal

abbrev pub invariant-loop-j : goal.invariant-loop-j
invariant-loop-j l = (k : ℕ) → k < l.j → ClashNeeds l.t l.i k → IsTrue (has l.kept k)
