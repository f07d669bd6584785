use Rattle.std.proofs.Common.{◌∙◌, ap, sym}
use Rattle.fix_io.specs.Entries.{entry_path}
use Rattle.fix_io.proofs.Climbs.{climbs}
use Rattle.fix_io.proofs.walk.ascends.Goals as goal

pub loop-i-preserved : goal.loop-i-preserved
loop-i-preserved c =
    let one = c.as_str.ensures.value ∙ ap entry_path (sym c.index-entries-i.is) in
    let two = c.as_str-in-loop-i.ensures.value ∙ ap entry_path (sym c.index-entries-i-in-loop-i.is) in
    climbs entry_path c.args.entries.now c.loop-i.i c.index-entries-i.result c.index-entries-i-in-loop-i.result
    c.loop-i.auto.i c.loop-i-test.true c.index-entries-i.is c.index-entries-i-in-loop-i.is
    (rw (← one, ← two) (sym c.cmp.ensures ∙ c.in-Less.is)) c.loop-i.invariant
