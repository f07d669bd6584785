use Rattle.std.proofs.Common.{◌≡◌, length}
use Rattle.type_flags.specs.Flags.{missing}
use Rattle.finite_types.specs.Flags.{SoundFlags}
use Rattle.finite_types.proofs.flags.finite_types.Given as goal

abbrev pub invariant-loop : goal.invariant-loop
invariant-loop l = (length l.flags.items ≡ length l.types.rows) × SoundFlags l.types l.declared l.flags.items

abbrev pub decreases-loop : goal.decreases-loop
decreases-loop l = missing l.flags.items
