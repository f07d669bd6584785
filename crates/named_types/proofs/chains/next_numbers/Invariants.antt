use Rattle.std.proofs.Common.{◌≡◌, ◌-◌, ℕ, drop, length}
use Rattle.named_types.specs.Defining.{next_number}
use Rattle.named_types.specs.Steps.{number_at}
use Rattle.named_types.proofs.chains.next_numbers.Given as goal

abbrev pub invariant-loop-count : goal.invariant-loop-count
invariant-loop-count l = record {
  long : length l.next.items ≡ length l.types.rows;
  same : (t : ℕ) → number_at l.next.items t ≡ next_number (drop (length l.declared - l.count) l.declared) t;
}
