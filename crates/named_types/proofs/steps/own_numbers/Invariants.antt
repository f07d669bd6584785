use Rattle.std.proofs.Common.{◌≡◌, ℕ, length}
use Rattle.named_types.specs.Steps.{number_at}
use Rattle.named_types.proofs.steps.own_numbers.Given as goal

abbrev pub invariant-loop-t : goal.invariant-loop-t
invariant-loop-t l = (length l.numbers.items ≡ l.t) × ((i : ℕ) → number_at l.numbers.items i ≡ i)
