use Rattle.std.proofs.Common.{◌+◌, length}
use Rattle.pkg_graph.specs.ImportOrder.Numbers.{IsWalk, unmarked}
use Rattle.pkg_graph.proofs.import_order.cycles.walk_on.Given as goal

abbrev pub invariant-loop-k : goal.invariant-loop-k
invariant-loop-k l = IsWalk l.links l.start l.marks l.walk.items

abbrev pub decreases-loop-k : goal.decreases-loop-k
decreases-loop-k l = length l.walk.items + unmarked l.marks
