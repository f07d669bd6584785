use Rattle.std.proofs.Common.{◌≡◌, ◌+◌, drop}
use Rattle.std.specs.List.{prefix_len}
use Rattle.pkg_graph.specs.ModuleFiles.ModuleFile.{is_decimal}
use Rattle.pkg_graph.proofs.module_files.version.digits_len.Given as goal

abbrev pub invariant-loop-i : goal.invariant-loop-i
invariant-loop-i l = l.i + prefix_len is_decimal (drop l.i l.bytes) ≡ prefix_len is_decimal l.bytes
