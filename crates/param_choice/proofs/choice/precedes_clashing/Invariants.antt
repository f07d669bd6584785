use Rattle.std.proofs.Common.{ℕ, ◌<◌}
use Rattle.param_choice.specs.Strikes.{Precedes}
use Rattle.param_choice.proofs.choice.precedes_clashing.Given as goal

abbrev pub invariant-loop-j : goal.invariant-loop-j
invariant-loop-j l = (k : ℕ) → k < l.j → Precedes l.t l.i k
