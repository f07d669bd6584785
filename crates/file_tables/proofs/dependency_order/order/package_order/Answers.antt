use Rattle.std.proofs.Common.{◌∙◌, sym, subst, map}
use Rattle.pkg_graph.specs.ModuleFiles.PathLists.{AreDistinct}
use Rattle.pkg_graph.specs.Views.{package_view}
use Rattle.file_tables.proofs.DependencyOrder.Paths.{viewed_paths}
use Rattle.file_tables.proofs.DependencyOrder.Orders.{links_within, order_found}
use Rattle.file_tables.proofs.dependency_order.order.package_order.Goals as goal

pub returns : goal.returns
returns c =
    let ps = map package_view c.args.packages.now in
    let e = viewed_paths c.args.packages.now in
    order_found ps c.in_ok-paths.paths c.in_ok-links.links (c.in_ok-paths.ensures ∙ e) (subst AreDistinct e c.requires.distinct) c.requires.named c.in_ok-links.ensures
    c.in_ok-placed.placed.order.items c.in_ok-placed.ensures.order

pub dependency_order-requires-clause-within : goal.dependency_order-requires-clause-within
dependency_order-requires-clause-within c =
    let ps = map package_view c.args.packages.now in
    let e = viewed_paths c.args.packages.now in
    links_within ps c.in_ok-paths.paths c.in_ok-links.links (c.in_ok-paths.ensures ∙ e) (subst AreDistinct e c.requires.distinct) c.requires.named c.in_ok-links.ensures

pub dependency_order-requires-clause-distinct : goal.dependency_order-requires-clause-distinct
dependency_order-requires-clause-distinct c = subst AreDistinct (sym c.in_ok-paths.ensures) c.requires.distinct
