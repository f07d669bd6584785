use Rattle.type_flags.specs.Flags.{KeptFlags}
use Rattle.type_flags.proofs.order.walk.Given as goal

abbrev pub invariant-loop : goal.invariant-loop
invariant-loop l = KeptFlags l.env l.initial.flags l.flags
