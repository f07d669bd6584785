use Rattle.std.proofs.Common.{◌≡◌, ◌<◌, true, false, ℕ}
use Rattle.pkg_graph.specs.ModuleFiles.PathLists.{has_path, path_at}
use Rattle.pkg_graph.specs.ImportOrder.Numbers.{is_marked}
use Rattle.pkg_graph.proofs.import_order.order.unmarked_paths.Given as goal

abbrev pub invariant-loop-k : goal.invariant-loop-k
invariant-loop-k l = (k : ℕ) → k < l.k → is_marked l.marks k ≡ false → has_path l.set (path_at l.paths k) ≡ true
