use Rattle.std.proofs.Common.{map}
use Rattle.pkg_graph.specs.Views.{package_view}
use Rattle.file_tables.proofs.DependencyOrder.Rows.{AreDone}
use Rattle.file_tables.proofs.dependency_order.links.package_links.Given as goal

abbrev pub invariant-loop-number : goal.invariant-loop-number
invariant-loop-number l = AreDone (map package_view l.packages) l.paths l.number l.rows
