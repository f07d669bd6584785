use Rattle.type_flags.specs.Keys.{is_keyed}
use Rattle.type_flags.proofs.GrownFlags.{Below}
use Rattle.type_flags.proofs.grown.extend_keyed.Given as goal

abbrev pub invariant-loop-t : goal.invariant-loop-t
invariant-loop-t l = Below (is_keyed l.env) l.keyed.items l.t
