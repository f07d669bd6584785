use Rattle.std.proofs.Common.{◌≡◌, ◌<◌, ℕ, false}
use Rattle.type_table.specs.TypeRelations.Environment.{has_methods}
use Rattle.collected.proofs.methods.has_no_methods.Given as goal

abbrev pub invariant-loop-t : goal.invariant-loop-t
invariant-loop-t l = (t : ℕ) → t < l.t → has_methods l.types.methods t ≡ false
