use Rattle.std.proofs.Common.{◌≡◌, drop, find}
use Rattle.pkg_graph.specs.ModuleFiles.Selected.{module_file}
use Rattle.pkg_graph.specs.Reads.{is_at}
use Rattle.module_texts.specs.Files.{sources_of}
use Rattle.module_reading.proofs.reading.find_module.Given as goal

abbrev pub invariant-loop-file : goal.invariant-loop-file
invariant-loop-file l = find (is_at module_file) (sources_of (drop l.file-index l.files)) ≡ find (is_at module_file) (sources_of l.files)
