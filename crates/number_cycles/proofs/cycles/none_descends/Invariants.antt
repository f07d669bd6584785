use Rattle.std.proofs.Common.{◌≡◌, ◌<◌, true, ℕ}
use Rattle.pkg_graph.specs.ImportOrder.Numbers.{is_among, row}
use Rattle.pkg_graph.specs.ImportOrder.Ranks.{rank_at, is_from}
use Rattle.number_cycles.proofs.cycles.none_descends.Given as goal

abbrev pub invariant-loop-k : goal.invariant-loop-k
invariant-loop-k l = (j m : ℕ) → j < l.k → is_among (row l.links j) m ≡ true → is_from l.ranks.items (rank_at l.ranks.items j) m ≡ true
