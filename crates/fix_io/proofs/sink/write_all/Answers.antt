use Rattle.std.proofs.Common.{◌∙◌, arith}
use Rattle.fix_io.proofs.Appended.{appended_more, take_piece}
use Rattle.fix_io.proofs.sink.write_all.Goals as goal

pub loop-done-preserved : goal.loop-done-preserved
loop-done-preserved g c =
    let kept = c.loop-done.invariant in
    let wrote = c.in_ok-done.ensures in (
      omega (arith, wrote.some.1),
      appended_more _ _ _ _ _ _ kept.1 wrote.ok (take_piece c.loop-done.done c.in_ok-done.field-0 c.args.bytes.now),
      wrote.cause.quiet ∙ kept.2,
    )
