use Rattle.std.proofs.Common.{◌≡◌, ◌<◌, ℕ, true, length}
use Rattle.pkg_graph.specs.ModuleFiles.PathLists.{has_path, path_at}
use Rattle.pkg_graph.specs.ImportOrder.Numbers.{Reaches}
use Rattle.pkg_graph.proofs.import_order.cycles.least_on_cycle.Given as goal

abbrev pub invariant-loop-path : goal.invariant-loop-path
invariant-loop-path l = (j : ℕ) → j < length l.paths → Reaches l.links j j → has_path l.left (path_at l.paths j) ≡ true

abbrev pub decreases-loop-path : goal.decreases-loop-path
decreases-loop-path l = length l.left
