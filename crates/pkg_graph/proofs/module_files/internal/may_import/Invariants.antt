use Rattle.std.proofs.Common.{◌≡◌, true}
use Rattle.pkg_graph.specs.ModuleFiles.Internal.{passes, all_below}
use Rattle.pkg_graph.proofs.module_files.internal.may_import.Given as goal

abbrev pub invariant-loop-k : goal.invariant-loop-k
invariant-loop-k l = all_below (passes l.from l.path) l.k ≡ true
