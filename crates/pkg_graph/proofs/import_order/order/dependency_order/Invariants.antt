use Rattle.std.proofs.Common.{◌≡◌, ℕ, List, length, [], ◌++◌}
use Rattle.pkg_graph.specs.ImportOrder.Numbers.{AreKept, ArePlaces, MarksAre, FollowsNumbers, unmarked}
use Rattle.pkg_graph.proofs.import_order.order.dependency_order.Given as goal

abbrev pub invariant-loop-tried : goal.invariant-loop-tried
invariant-loop-tried l = record {
  kept : AreKept l.links l.marks.items l.waiting l.paths l.tried;
  places : ArePlaces l.links l.marks.items l.places.items;
  size : length l.waiting ≡ length l.paths;
  marks : length l.marks.items ≡ length l.paths;
  marked : MarksAre l.marks.items l.order.items;
  so_far : (rest : List ℕ) → FollowsNumbers l.links l.paths l.order.items rest → FollowsNumbers l.links l.paths [] (l.order.items ++ rest);
}

abbrev pub decreases-loop-tried : goal.decreases-loop-tried
decreases-loop-tried l = unmarked l.marks.items
