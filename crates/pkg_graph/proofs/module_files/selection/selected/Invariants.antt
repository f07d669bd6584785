use Rattle.std.proofs.Common.{◌≡◌, take}
use Rattle.pkg_graph.specs.ModuleFiles.Selected.{selected_from}
use Rattle.pkg_graph.proofs.module_files.selection.selected.Given as goal

abbrev pub invariant-loop-i : goal.invariant-loop-i
invariant-loop-i l = l.numbers.items ≡ selected_from l.paths 0 (take l.i l.paths)
