use Rattle.std.proofs.Common.{take}
use Rattle.pkg_graph.specs.ModuleFiles.Selection.{AreModuleFolders}
use Rattle.pkg_graph.proofs.module_files.selection.module_folders.Given as goal

abbrev pub invariant-loop-path : goal.invariant-loop-path
invariant-loop-path l = AreModuleFolders (take l.path-index l.paths) l.folders
