use Rattle.pkg_graph.proofs.ModuleFiles.PieceLaws.{IsSplitAt}
use Rattle.pkg_graph.proofs.module_files.folders.folder_and_name.Given as goal

abbrev pub invariant-loop-i : goal.invariant-loop-i
invariant-loop-i l = IsSplitAt l.path l.i l.end l.start
