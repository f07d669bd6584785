use Rattle.std.proofs.Common.{◌∙◌, sym, ap, map, replicate, arith, ℕ, List, [], subst}
use Rattle.std.proofs.lemmas.List.{length-map}
use Rattle.pkg_graph.specs.Views.{package_view}
use Rattle.file_tables.proofs.DependencyOrder.Rows.{none_done, one_done, all_done}
use Rattle.file_tables.proofs.DependencyOrder.Paths.{viewed_at}
use Rattle.file_tables.specs.DependencyOrder.Links.{AddsTo}
use Rattle.file_tables.proofs.dependency_order.links.package_links.Goals as goal

pub loop-number-init : goal.loop-number-init
loop-number-init c =
    none_done (map package_view c.args.packages.now) c.args.paths.now c.in_ok-rows.rows
    (c.in_ok-rows.ensures ∙ ap (λ (n : ℕ). replicate n []) (sym (length-map c.args.packages.now package_view)))

pub add_links-requires : goal.add_links-requires
add_links-requires c = omega (arith, c.loop-number.invariant.size, length-map c.args.packages.now package_view, c.loop-number-test.true)

pub loop-number-preserved : goal.loop-number-preserved
loop-number-preserved c =
    one_done (map package_view c.args.packages.now) c.args.paths.now c.loop-number.number (package_view c.index-packages-number.result) c.in_ok-numbers.numbers.items
    c.loop-number.rows c.add_links.new.rows (viewed_at c.args.packages.now c.loop-number.number c.index-packages-number.result c.loop-number-test.true c.index-packages-number.is)
    c.in_ok-numbers.ensures c.loop-number.invariant
    (subst (λ (ns : List ℕ). AddsTo c.loop-number.number ns c.loop-number.rows c.add_links.new.rows) c.deref.ensures.value c.in_ok-add_links.ensures)

pub returns : goal.returns
returns c =
    all_done (map package_view c.args.packages.now) c.args.paths.now c.loop-number.number c.loop-number.rows
    (omega (arith, length-map c.args.packages.now package_view, c.loop-number-test.false)) c.loop-number.invariant
