use Rattle.type_flags.specs.Flags.{PassedFlags}
use Rattle.type_flags.proofs.flags.set_missing.Given as goal

abbrev pub invariant-loop-t : goal.invariant-loop-t
invariant-loop-t l = PassedFlags l.env l.initial.flags l.flags l.t l.changed
