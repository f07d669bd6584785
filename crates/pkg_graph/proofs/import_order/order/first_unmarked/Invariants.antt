use Rattle.std.proofs.Common.{take}
use Rattle.pkg_graph.specs.ImportOrder.Numbers.{AreMarked}
use Rattle.pkg_graph.proofs.import_order.order.first_unmarked.Given as goal

abbrev pub invariant-loop-place : goal.invariant-loop-place
invariant-loop-place l = AreMarked l.marks (take l.place l.numbers)
