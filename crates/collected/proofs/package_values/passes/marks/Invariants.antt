use Rattle.std.proofs.Common.{◌≡◌, replicate}
use Rattle.collected.proofs.package_values.passes.marks.Given as goal

abbrev pub invariant-loop : goal.invariant-loop
invariant-loop l = l.marks.items ≡ replicate l.counter l.mark
