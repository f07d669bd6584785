use Rattle.pkg_graph.proofs.ImportOrder.OpenLaws.{first_is_least, none_is_open}
use Rattle.pkg_graph.proofs.import_order.order.next_open.Goals as goal

pub returns-in-Some-2-clause-least : goal.returns-in-Some-2-clause-least
returns-in-Some-2-clause-least c =
    let named = rw c.in-Some-2.is at c.in_ok-k.ensures.named in
    rw (named, c.deref.ensures.value) (first_is_least c.args.links.now c.args.marks.now c.loop-path.waiting c.args.paths.now c.requires.rows c.loop-path.tried c.in-Some.path.items c.take_first.new.self c.in-Some.ensures.first c.loop-path.invariant.kept c.in-Some.ensures.least)

pub returns-clause-none : goal.returns-clause-none
returns-clause-none c = none_is_open c.args.links.now c.args.marks.now c.loop-path.waiting c.args.paths.now c.requires.rows c.loop-path.tried c.in_default.ensures.none c.loop-path.invariant.kept
