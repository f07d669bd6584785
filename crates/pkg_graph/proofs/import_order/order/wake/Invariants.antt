use Rattle.std.proofs.Common.{◌≡◌, ◌<◌, ℕ, List, true, length, take}
use Rattle.pkg_graph.specs.ModuleFiles.PathLists.{has_path, path_at}
use Rattle.pkg_graph.specs.ImportOrder.Numbers.{is_among}
use Rattle.pkg_graph.proofs.import_order.order.wake.Given as goal

abbrev pub invariant-loop-j : goal.invariant-loop-j
invariant-loop-j l = record {
  kept : (q : List ℕ) → has_path l.initial.tried q ≡ true → has_path l.tried q ≡ true;
  woken : (j : ℕ) → is_among (take l.j-index l.j-items) j ≡ true → j < length l.paths → has_path l.tried (path_at l.paths j) ≡ true;
}
