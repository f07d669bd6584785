use Rattle.finite_types.specs.Flags.{KeptFlags}
use Rattle.finite_types.proofs.order.set_in_order.Given as goal

abbrev pub invariant-loop-t : goal.invariant-loop-t
invariant-loop-t l = KeptFlags l.types l.next l.initial.flags l.flags
