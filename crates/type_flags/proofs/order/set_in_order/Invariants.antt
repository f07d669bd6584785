use Rattle.type_flags.specs.Flags.{KeptFlags}
use Rattle.type_flags.proofs.order.set_in_order.Given as goal

abbrev pub invariant-loop-t : goal.invariant-loop-t
invariant-loop-t l = KeptFlags l.env l.initial.flags l.flags
