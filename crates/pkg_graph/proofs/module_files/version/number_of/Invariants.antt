use Rattle.std.proofs.Common.{◌≡◌, ◌≤◌, drop, fold}
use Rattle.pkg_graph.specs.ModuleFiles.ModuleFile.{next_number, number_of}
use Rattle.pkg_graph.proofs.module_files.version.number_of.Given as goal

abbrev pub invariant-loop-digit : goal.invariant-loop-digit
invariant-loop-digit l = record {
  made : fold next_number l.number (drop l.digit-index l.digits) ≡ number_of l.digits;
  small : l.number ≤ 1000000;
}
