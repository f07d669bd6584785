use Rattle.std.proofs.Common.{take}
use Rattle.pkg_graph.specs.Views.{sources_of, AreHomes}
use Rattle.pkg_graph.proofs.homes.find_homes.Given as goal

abbrev pub invariant-loop-file : goal.invariant-loop-file
invariant-loop-file l = AreHomes l.module_path (sources_of (take l.file-index l.files)) l.homes.paths l.homes.names.items l.homes.numbers.items
