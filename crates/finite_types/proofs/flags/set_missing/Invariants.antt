use Rattle.finite_types.specs.Flags.{PassedFlags}
use Rattle.finite_types.proofs.flags.set_missing.Given as goal

abbrev pub invariant-loop-t : goal.invariant-loop-t
invariant-loop-t l = PassedFlags l.types l.next l.initial.flags l.flags l.t l.changed
