use Rattle.std.proofs.Common.{◌≡◌, ◌++◌, drop, map}
use Rattle.pkg_graph.specs.Graph.{files_import, imports_of}
use Rattle.pkg_graph.specs.Views.{source_of, package_view}
use Rattle.file_tables.specs.DependencyOrder.Links.{numbers_of}
use Rattle.file_tables.proofs.dependency_order.numbers.package_numbers.Given as goal

abbrev pub invariant-loop-source : goal.invariant-loop-source
invariant-loop-source l =
    l.numbers.items ++ numbers_of l.paths (files_import (map source_of (drop l.source-index l.source-items)))
    ≡ numbers_of l.paths (imports_of (package_view l.home))
