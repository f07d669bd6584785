use Rattle.std.proofs.Common.{◌≡◌, length}
use Rattle.type_flags.specs.Flags.{SoundFlags, missing}
use Rattle.type_flags.proofs.flags.comparable_types.Given as goal

abbrev pub invariant-loop : goal.invariant-loop
invariant-loop l = (length l.flags.items ≡ length l.env.rows) × SoundFlags l.env l.flags.items

abbrev pub decreases-loop : goal.decreases-loop
decreases-loop l = missing l.flags.items
