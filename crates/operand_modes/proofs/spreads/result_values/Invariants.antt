use Rattle.std.proofs.Common.{◌≡◌, ◌++◌, drop, map}
use Rattle.operand_modes.specs.Lists.{run_value}
use Rattle.operand_modes.proofs.spreads.result_values.Given as goal

abbrev pub invariant-loop-t : goal.invariant-loop-t
invariant-loop-t l = l.values.items ++ map run_value (drop l.t-index l.types) ≡ map run_value l.types
