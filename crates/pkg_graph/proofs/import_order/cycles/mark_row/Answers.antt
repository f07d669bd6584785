use Rattle.std.proofs.Common.{◌∙◌}
use Rattle.pkg_graph.proofs.ImportOrder.NumberLaws.{among_at}
use Rattle.pkg_graph.proofs.ImportOrder.WalkLaws.{marked_more, walked_more}
use Rattle.pkg_graph.proofs.import_order.cycles.mark_row.Goals as goal

pub loop-number-preserved : goal.loop-number-preserved
loop-number-preserved c =
    let xs = c.args.numbers.now in
    let i = c.loop-number.number-index in
    record {
      marked = marked_more xs i c.loop-number-test.true c.args.marks.now c.loop-number.marks c.mark.new.marks c.loop-number.invariant.marked c.in_ok-mark.ensures.marked;
      walked = walked_more xs i c.loop-number-test.true c.args.marks.now c.loop-number.marks c.args.walk.now.items c.loop-number.walk.items c.mark.new.walk.items c.loop-number.invariant.marked c.loop-number.invariant.walked c.in_ok-mark.ensures.walked;
      count = c.in_ok-mark.ensures.count ∙ c.loop-number.invariant.count;
    }

pub mark-requires : goal.mark-requires
mark-requires c = rw c.loop-number.auto.marks (c.requires _ (among_at c.args.numbers.now c.loop-number.number-index 0 c.loop-number-test.true))
