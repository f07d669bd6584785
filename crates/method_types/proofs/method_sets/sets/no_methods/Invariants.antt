use Rattle.std.proofs.Common.{◌≡◌, [], replicate}
use Rattle.method_types.proofs.method_sets.sets.no_methods.Given as goal

abbrev pub invariant-loop : goal.invariant-loop
invariant-loop l = l.sets.items ≡ replicate l.counter []
