use Rattle.std.proofs.Common.{◌<◌, ◌∙◌, length, sym}
use Rattle.std.proofs.lemmas.Bool.{true≢false}
use Rattle.pkg_graph.specs.ModuleFiles.PathLists.{path_at}
use Rattle.pkg_graph.proofs.ImportOrder.NumberLaws.{number_at}
use Rattle.pkg_graph.proofs.ImportOrder.OpenLaws.{none_before_first}
use Rattle.pkg_graph.proofs.ImportOrder.WalkLaws.{reaches_within}
use Rattle.pkg_graph.proofs.import_order.cycles.least_on_cycle.Goals as goal

pub is_on_cycle-requires-clause-start : goal.is_on_cycle-requires-clause-start
is_on_cycle-requires-clause-start c = rw c.requires.rows ((number_at c.args.paths.now _ c.in-Some-number.k (sym c.in-Some-number.ensures)).0)

pub returns-then-branch-clause-number : goal.returns-then-branch-clause-number
returns-then-branch-clause-number c = (number_at c.args.paths.now _ c.in-Some-number.k (sym c.in-Some-number.ensures)).0

pub returns-then-branch-clause-least : goal.returns-then-branch-clause-least
returns-then-branch-clause-least c = λ j r b.
    let links = c.args.links.now in
    let paths = c.args.paths.now in
    let at = (number_at paths _ c.in-Some-number.k (sym c.in-Some-number.ensures)).1 ∙ c.deref.ensures.value in
    let h : j < length paths = rw (← c.requires.rows) (reaches_within links j j r) in
    none_before_first c.loop-path.left c.in-Some.path.items c.take_first.new.self c.in-Some.ensures.first c.in-Some.ensures.least (path_at paths j) (c.loop-path.invariant j h r) (rw at at b)

pub returns-clause-none : goal.returns-clause-none
returns-clause-none c = λ j r.
    let links = c.args.links.now in
    let paths = c.args.paths.now in
    let h : j < length paths = rw (← c.requires.rows) (reaches_within links j j r) in
    let has = rw c.in_default.ensures.none at (c.loop-path.invariant j h r) in
    true≢false (sym has)
