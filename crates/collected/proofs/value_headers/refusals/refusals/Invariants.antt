use Rattle.std.proofs.Common.{◌≡◌, replicate}
use Rattle.typed_names.specs.declared.entities.Entity.TheVariants.{Refused}
use Rattle.collected.proofs.value_headers.refusals.refusals.Given as goal

abbrev pub invariant-loop : goal.invariant-loop
invariant-loop l = l.items.items ≡ replicate l.counter Refused
