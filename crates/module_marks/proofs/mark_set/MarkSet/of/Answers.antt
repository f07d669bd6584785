use Rattle.module_marks.proofs.SetLaws.{one_read}
use Rattle.module_marks.proofs.mark_set.MarkSet.of.Goals as goal

pub loop-mark-preserved : goal.loop-mark-preserved
loop-mark-preserved c = λ q.
    one_read q c.args.marks.now c.loop-mark.mark-index _ c.loop-mark.set c.add.new.self _ c.loop-mark-test.true
    (c.in_ok-add.ensures q) (c.loop-mark.invariant q)
