use Rattle.std.proofs.Common.{◌≡◌, length}
use Rattle.type_flags.proofs.KeyLaws.{KeyedBelow}
use Rattle.type_flags.proofs.keys.keyed_types.Given as goal

abbrev pub invariant-loop-t : goal.invariant-loop-t
invariant-loop-t l = (length l.keyed.items ≡ l.t) × KeyedBelow l.env l.keyed.items l.t
