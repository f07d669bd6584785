use Rattle.std.proofs.Common.{◌≡◌, replicate}
use Rattle.typed_names.specs.declared.entities.Entity.TheVariants.{Variable as a_variable}
use Rattle.initial_values.proofs.value_entities.lists.variables_of.Given as goal

abbrev pub invariant-loop : goal.invariant-loop
invariant-loop l = l.items.items ≡ replicate l.counter (a_variable l.t)
