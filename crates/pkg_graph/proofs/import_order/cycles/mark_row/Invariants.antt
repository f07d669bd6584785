use Rattle.std.proofs.Common.{◌≡◌, ◌||◌, ◌&&◌, ◌+◌, ℕ, not, length, take}
use Rattle.pkg_graph.specs.ImportOrder.Numbers.{is_among, is_marked, unmarked}
use Rattle.pkg_graph.proofs.import_order.cycles.mark_row.Given as goal

abbrev pub invariant-loop-number : goal.invariant-loop-number
invariant-loop-number l = record {
  marked : (m : ℕ) → is_marked l.marks m ≡ is_marked l.initial.marks m || is_among (take l.number-index l.numbers) m;
  walked : (m : ℕ) → is_among l.walk.items m ≡ is_among l.initial.walk.items m || (is_among (take l.number-index l.numbers) m && not (is_marked l.initial.marks m));
  count : length l.walk.items + unmarked l.marks ≡ length l.initial.walk.items + unmarked l.initial.marks;
}
