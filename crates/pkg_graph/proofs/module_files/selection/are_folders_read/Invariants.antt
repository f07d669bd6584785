use Rattle.pkg_graph.specs.ModuleFiles.Selection.{IsFrontRead}
use Rattle.pkg_graph.proofs.module_files.selection.are_folders_read.Given as goal

abbrev pub invariant-loop-i : goal.invariant-loop-i
invariant-loop-i l = IsFrontRead l.modules l.path l.i l.start
