use Rattle.finite_types.specs.Flags.{KeptFlags}
use Rattle.finite_types.proofs.order.walk.Given as goal

abbrev pub invariant-loop : goal.invariant-loop
invariant-loop l = KeptFlags l.types l.next l.initial.flags l.flags
