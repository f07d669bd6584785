use Rattle.method_types.specs.MethodNames.Known.{FieldsSoFar}
use Rattle.method_types.proofs.method_names.tables.all_fields.Given as goal

abbrev pub invariant-loop-number : goal.invariant-loop-number
invariant-loop-number l = FieldsSoFar l.types l.number l.blocks.items
