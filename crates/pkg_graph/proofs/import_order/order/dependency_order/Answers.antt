use Rattle.std.proofs.Common.{◌∙◌, ◌<◌, [], length, sym, ap, subst, true, slice_set}
use Rattle.std.proofs.lemmas.List.{length-set}
use Rattle.pkg_graph.specs.ImportOrder.Numbers.{MarksAre}
use Rattle.pkg_graph.proofs.ImportOrder.OpenLaws.{fewer_unmarked, next_number, last_number, marks_next, places_next, so_far_next, so_far_done, kept_next, is_none}
use Rattle.pkg_graph.proofs.import_order.order.dependency_order.Goals as goal

pub loop-tried-smaller : goal.loop-tried-smaller
loop-tried-smaller c =
    let marks = c.loop-tried.marks.items in
    let open_ = rw (c.deref-in-loop-tried.ensures.value) at (rw c.in-Some.is at c.in_ok-k.ensures.open) in
    fewer_unmarked marks c.in-Some.k (rw (c.loop-tried.invariant.marks, ← c.requires.rows) open_.within) open_.open_

pub loop-tried-preserved : goal.loop-tried-preserved
loop-tried-preserved c =
    let marks = c.loop-tried.marks.items in
    let placed = c.loop-tried.order.items in
    let links = c.args.links.now in
    let paths = c.args.paths.now in
    let k = c.in-Some.k in
    let open_ = rw (c.deref-in-loop-tried.ensures.value) at (rw c.in-Some.is at c.in_ok-k.ensures.open) in
    let least = rw (c.deref-in-loop-tried.ensures.value) at (rw c.in-Some.is at c.in_ok-k.ensures.least) in
    let kept = rw (c.deref-in-loop-tried.ensures.value) at (rw c.in-Some.is at c.in_ok-k.ensures.kept) in
    let h : k < length marks = rw (c.loop-tried.invariant.marks, ← c.requires.rows) open_.within in
    let w : k < length c.next_open.new.waiting = rw (c.in_ok-k.ensures.size, ← c.requires.rows) open_.within in
    let e = c.in_ok-push.ensures.items in
    record {
      kept = kept_next links marks c.next_open.new.waiting c.wake.new.waiting paths c.next_open.new.tried c.wake.new.tried k h w c.in_ok-wake.ensures.rest kept c.in_ok-wake.ensures.kept c.in_ok-wake.ensures.woken;
      places = places_next links marks c.next_open.new.places.items k h (rw (c.deref-in-loop-tried.ensures.value) at c.in_ok-k.ensures.places);
      size = ap length c.in_ok-wake.ensures.rest ∙ length-set c.next_open.new.waiting k [] ∙ c.in_ok-k.ensures.size;
      marks = length-set marks k true ∙ c.loop-tried.invariant.marks;
      marked = subst (MarksAre (slice_set marks k true)) (sym e) (marks_next links marks placed c.loop-tried.invariant.marked k h);
      so_far = rw e (so_far_next links paths placed k (next_number links marks placed c.loop-tried.invariant.marked paths k open_ least) c.loop-tried.invariant.so_far);
    }

pub returns-clause-order : goal.returns-clause-order
returns-clause-order c =
    let empty = is_none c.in_ok-k.field-0 c.in_default.not-Some in
    let none_left = rw (c.deref-in-loop-tried.ensures.value) at (rw empty at c.in_ok-k.ensures.none) in
    so_far_done c.args.links.now c.args.paths.now c.loop-tried.order.items c.loop-tried.invariant.so_far
    (last_number c.args.links.now c.loop-tried.marks.items c.loop-tried.order.items c.loop-tried.invariant.marked c.args.paths.now none_left)
