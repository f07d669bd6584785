use Rattle.std.proofs.Common.{◌≡◌, ◌<◌, ℕ, true, false, length}
use Rattle.pkg_graph.specs.ImportOrder.Numbers.{Reaches, is_marked}
use Rattle.number_cycles.proofs.cycles.on_cycles.Given as goal

abbrev pub invariant-loop-k : goal.invariant-loop-k
invariant-loop-k l = record {
  size : length l.flags.items ≡ l.k;
  on : (j : ℕ) → is_marked l.flags.items j ≡ true → Reaches l.links j j;
  off : (j : ℕ) → j < length l.flags.items → is_marked l.flags.items j ≡ false → Reaches l.links j j → ⊥;
}
