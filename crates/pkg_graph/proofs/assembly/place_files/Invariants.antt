use Rattle.std.proofs.Common.{◌≡◌, map, take, drop}
use Rattle.std.specs.Vec.Iter.{into_iter_items}
use Rattle.pkg_graph.specs.Package.{files_of}
use Rattle.pkg_graph.specs.Views.{sources_of, package_view}
use Rattle.pkg_graph.specs.Assembly.{packages_with}
use Rattle.pkg_graph.proofs.assembly.place_files.Given as goal

abbrev pub invariant-loop-number : goal.invariant-loop-number
invariant-loop-number l = record {
  rest : into_iter_items l.rest ≡ drop l.number-index l.fn.files.items;
  placed : map package_view l.packages.items ≡ packages_with (files_of l.module_path (sources_of (take l.number-index l.fn.files.items))) l.homes.paths l.homes.names.items;
}
