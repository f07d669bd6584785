use Rattle.header_order.proofs.CodeLemmas.{mark_found, mark_missing, mark_passed}
use Rattle.header_order.proofs.files.first_marked.Goals as goal

pub returns-then-marks-i : goal.returns-then-marks-i
returns-then-marks-i c =
    mark_found c.args.marks.now c.args.start c.args.end c.loop-i.i c.loop-i.invariant c.loop-i-test.true
    c.requires.within c.if-marks-i.true

pub loop-i-preserved : goal.loop-i-preserved
loop-i-preserved c =
    mark_passed c.args.marks.now c.args.start c.args.end c.loop-i.i c.loop-i.invariant c.loop-i-test.true
    c.requires.within c.if-marks-i.false

pub returns : goal.returns
returns c =
    mark_missing c.args.marks.now c.args.start c.args.end c.loop-i.i c.loop-i.invariant c.loop-i-test.false
    (c.loop-i.auto.i-end c.requires.from)
