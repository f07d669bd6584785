use Rattle.std.proofs.Common.{map}
use Rattle.member_uses.specs.Views.{names_in}
use Rattle.repeated_parts.specs.UsesRepeated.Views.{flagged_of}
use Rattle.repeated_parts.proofs.UsesRepeated.Flagged.{one_part}
use Rattle.repeated_parts.proofs.uses_repeated.uses.repeated_uses.Goals as goal

pub loop-at-preserved : goal.loop-at-preserved
loop-at-preserved c =
    one_part (names_in c.args.file.now) c.args.parts.now c.args.flags.now c.loop-at.at c.index-parts-at.result
    c.flag_at-flag.result (map flagged_of c.loop-at.uses.items) (map flagged_of c.add_part.new.uses.items) _
    c.loop-at-test.true c.index-parts-at.is c.flag_at-flag.ensures c.in_ok-add_part.ensures c.loop-at.invariant
