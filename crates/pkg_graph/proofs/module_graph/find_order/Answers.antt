use Rattle.std.proofs.Common.{◌∙◌, ap, sym, arith, map, find, not}
use Rattle.std.specs.List.{list_any}
use Rattle.pkg_graph.specs.Package.{packages_of}
use Rattle.pkg_graph.specs.ModuleFiles.Internal.{may_import}
use Rattle.pkg_graph.specs.Graph.{is_named_by, numbered_files}
use Rattle.pkg_graph.specs.GraphFaults.{named_by, is_mixed_at}
use Rattle.pkg_graph.specs.ImportViews.{import_view}
use Rattle.pkg_graph.specs.Views.{sources_of, source_of}
use Rattle.std.proofs.lemmas.List.{length-map}
use Rattle.pkg_graph.proofs.PlanLaws.{are_distinct, within_paths, within_names, paths_small, mixed_alike, named_alike}
use Rattle.pkg_graph.proofs.FaultLaws.{mixed_fault, named_fault, internal_fault, links_within, order_is, cycle_fault, links_hold, never_leads_back, none_unnamed}
use Rattle.pkg_graph.proofs.BridgeLaws.{placed_off}
use Rattle.pkg_graph.proofs.module_graph.find_order.Goals as goal

pub check_names-requires-clause-within : goal.check_names-requires-clause-within
check_names-requires-clause-within c = λ k l. let homes = c.args.homes.now in within_names c.args.module_path.now (sources_of c.args.files.now) homes.paths homes.names.items homes.numbers.items c.requires.homes k (rw (length-map c.args.files.now source_of) l)

pub find_imports-requires-clause-within : goal.find_imports-requires-clause-within
find_imports-requires-clause-within c = λ k l. let homes = c.args.homes.now in within_paths c.args.module_path.now (sources_of c.args.files.now) homes.paths homes.names.items homes.numbers.items c.requires.homes k (rw (length-map c.args.files.now source_of) l)

pub find_links-requires : goal.find_links-requires
find_links-requires c = let homes = c.args.homes.now in are_distinct c.args.module_path.now (sources_of c.args.files.now) homes.paths homes.names.items homes.numbers.items c.requires.homes

pub dependency_order-requires-clause-distinct : goal.dependency_order-requires-clause-distinct
dependency_order-requires-clause-distinct c = let homes = c.args.homes.now in are_distinct c.args.module_path.now (sources_of c.args.files.now) homes.paths homes.names.items homes.numbers.items c.requires.homes

pub check_cycles-requires-clause-distinct : goal.check_cycles-requires-clause-distinct
check_cycles-requires-clause-distinct c = let homes = c.args.homes.now in are_distinct c.args.module_path.now (sources_of c.args.files.now) homes.paths homes.names.items homes.numbers.items c.requires.homes

pub dependency_order-requires-clause-small : goal.dependency_order-requires-clause-small
dependency_order-requires-clause-small c =
    let homes = c.args.homes.now in
    let fewer = paths_small c.args.module_path.now (sources_of c.args.files.now) homes.paths homes.names.items homes.numbers.items c.requires.homes in
    let same = length-map c.args.files.now source_of in
    let count = c.requires.count in
    omega (arith, fewer, same, count)

pub returns-in-Err-clause-cause : goal.returns-in-Err-clause-cause
returns-in-Err-clause-cause c =
    let home = c.args.module_path.now in
    let fs = sources_of c.args.files.now in
    let ps = c.args.homes.now.paths in
    let names = c.args.homes.now.names.items in
    let ns = c.args.homes.now.numbers.items in
    let h = c.requires.homes in
    mixed_fault home fs (find (is_mixed_at names ns) (numbered_files 0 fs)) (mixed_alike home fs ps names ns h) c.in-Err.error c.in-Err.ensures.cause

pub returns-in-Err-check_named-clause-cause : goal.returns-in-Err-check_named-clause-cause
returns-in-Err-check_named-clause-cause c =
    let home = c.args.module_path.now in
    let fs = sources_of c.args.files.now in
    let ps = c.args.homes.now.paths in
    let names = c.args.homes.now.names.items in
    let ns = c.args.homes.now.numbers.items in
    let h = c.requires.homes in
    let mixed = sym (mixed_alike home fs ps names ns h) ∙ c.in_default.ensures.one_name in
    let list = map import_view c.in_ok-imports.imports.items in
    let is = c.in_ok-imports.ensures home h in
    let cause = rw c.deref.ensures.value at c.in-Err-check_named.ensures.cause in
    named_fault home fs (find (λ i. not (named_by ps names i.spec.path)) list) mixed (named_alike home fs ps names ns h list ∙ ap (find (λ i. not (list_any (is_named_by i.spec.path) (packages_of home fs)))) is) c.in-Err-check_named.error cause

pub dependency_order-requires-clause-within : goal.dependency_order-requires-clause-within
dependency_order-requires-clause-within c =
    let home = c.args.module_path.now in
    let fs = sources_of c.args.files.now in
    let ps = c.args.homes.now.paths in
    let names = c.args.homes.now.names.items in
    let ns = c.args.homes.now.numbers.items in
    let h = c.requires.homes in
    let list = map import_view c.in_ok-imports.imports.items in
    let is = c.in_ok-imports.ensures home h in
    let named = rw c.deref.ensures.value at c.in_default-check_named.ensures.named in
    let links = c.in_ok-links.links in
    let linked = rw c.deref-2.ensures.value at c.in_ok-links.ensures in
    links_within home fs ps names ns h list is named links linked

pub check_cycles-requires-clause-within : goal.check_cycles-requires-clause-within
check_cycles-requires-clause-within c =
    let home = c.args.module_path.now in
    let fs = sources_of c.args.files.now in
    let ps = c.args.homes.now.paths in
    let names = c.args.homes.now.names.items in
    let ns = c.args.homes.now.numbers.items in
    let h = c.requires.homes in
    let list = map import_view c.in_ok-imports.imports.items in
    let is = c.in_ok-imports.ensures home h in
    let named = rw c.deref.ensures.value at c.in_default-check_named.ensures.named in
    let links = c.in_ok-links.links in
    let linked = rw c.deref-2.ensures.value at c.in_ok-links.ensures in
    links_within home fs ps names ns h list is named links linked

pub check_cycles-requires-clause-off : goal.check_cycles-requires-clause-off
check_cycles-requires-clause-off c =
    let home = c.args.module_path.now in
    let fs = sources_of c.args.files.now in
    let ps = c.args.homes.now.paths in
    let names = c.args.homes.now.names.items in
    let ns = c.args.homes.now.numbers.items in
    let h = c.requires.homes in
    λ k m. placed_off c.in_ok-links.links ps c.in_ok-placed.placed.order.items c.in_ok-placed.ensures.order k (sym (c.in_ok-placed.ensures.marks k) ∙ (rw c.deref-3.ensures.value at m))

pub returns-in-Err-check_cycles-clause-cause : goal.returns-in-Err-check_cycles-clause-cause
returns-in-Err-check_cycles-clause-cause c =
    let home = c.args.module_path.now in
    let fs = sources_of c.args.files.now in
    let ps = c.args.homes.now.paths in
    let names = c.args.homes.now.names.items in
    let ns = c.args.homes.now.numbers.items in
    let h = c.requires.homes in
    let mixed = sym (mixed_alike home fs ps names ns h) ∙ c.in_default.ensures.one_name in
    let list = map import_view c.in_ok-imports.imports.items in
    let is = c.in_ok-imports.ensures home h in
    let named = rw c.deref.ensures.value at c.in_default-check_named.ensures.named in
    let links = c.in_ok-links.links in
    let linked = rw c.deref-2.ensures.value at c.in_ok-links.ensures in
    cycle_fault home fs ps names ns h list is named links linked mixed c.in-Err-check_cycles.error c.in-Err-check_cycles.ensures.cause

pub returns-in-Err-check_visible-clause-cause : goal.returns-in-Err-check_visible-clause-cause
returns-in-Err-check_visible-clause-cause c =
    let home = c.args.module_path.now in
    let fs = sources_of c.args.files.now in
    let ps = c.args.homes.now.paths in
    let names = c.args.homes.now.names.items in
    let ns = c.args.homes.now.numbers.items in
    let h = c.requires.homes in
    let mixed = sym (mixed_alike home fs ps names ns h) ∙ c.in_default.ensures.one_name in
    let list = map import_view c.in_ok-imports.imports.items in
    let is = c.in_ok-imports.ensures home h in
    let named = rw c.deref.ensures.value at c.in_default-check_named.ensures.named in
    let links = c.in_ok-links.links in
    let linked = rw c.deref-2.ensures.value at c.in_ok-links.ensures in
    let unnamed = none_unnamed home fs ps names ns h list is named links linked in
    let acyclic = never_leads_back home fs ps names ns h list is named links linked c.in_default-check_cycles.ensures.none in
    let cause = rw c.deref-4.ensures.value at c.in-Err-check_visible.ensures.cause in
    internal_fault home fs (find (λ i. not (may_import i.from i.spec.path)) list) mixed unnamed acyclic (ap (find (λ i. not (may_import i.from i.spec.path))) is) c.in-Err-check_visible.error cause

pub returns-clause-order : goal.returns-clause-order
returns-clause-order c =
    let home = c.args.module_path.now in
    let fs = sources_of c.args.files.now in
    let ps = c.args.homes.now.paths in
    let names = c.args.homes.now.names.items in
    let ns = c.args.homes.now.numbers.items in
    let h = c.requires.homes in
    let list = map import_view c.in_ok-imports.imports.items in
    let is = c.in_ok-imports.ensures home h in
    let named = rw c.deref.ensures.value at c.in_default-check_named.ensures.named in
    let links = c.in_ok-links.links in
    let linked = rw c.deref-2.ensures.value at c.in_ok-links.ensures in
    order_is home fs ps names ns h list is named links linked c.in_ok-placed.placed.order.items c.in_ok-placed.ensures.order

pub returns-clause-links : goal.returns-clause-links
returns-clause-links c =
    let home = c.args.module_path.now in
    let fs = sources_of c.args.files.now in
    let ps = c.args.homes.now.paths in
    let names = c.args.homes.now.names.items in
    let ns = c.args.homes.now.numbers.items in
    let h = c.requires.homes in
    let mixed = sym (mixed_alike home fs ps names ns h) ∙ c.in_default.ensures.one_name in
    let list = map import_view c.in_ok-imports.imports.items in
    let is = c.in_ok-imports.ensures home h in
    let named = rw c.deref.ensures.value at c.in_default-check_named.ensures.named in
    let links = c.in_ok-links.links in
    let linked = rw c.deref-2.ensures.value at c.in_ok-links.ensures in
    let visible = rw c.deref-4.ensures.value at c.in_default-check_visible.ensures.visible in
    links_hold home fs ps names ns h list is named links linked mixed c.in_default-check_cycles.ensures.none visible
