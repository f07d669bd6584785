use Rattle.std.proofs.Common.{◌≡◌, length}
use Rattle.pkg_graph.specs.ImportOrder.Numbers.{AreKept, ArePlaces}
use Rattle.pkg_graph.proofs.import_order.order.next_open.Given as goal

abbrev pub invariant-loop-path : goal.invariant-loop-path
invariant-loop-path l = record {
  kept : AreKept l.links l.marks l.waiting l.paths l.tried;
  places : ArePlaces l.links l.marks l.places.items;
  size : length l.waiting ≡ length l.paths;
}

abbrev pub decreases-loop-path : goal.decreases-loop-path
decreases-loop-path l = length l.tried
