use Rattle.method_types.specs.MethodNames.Known.{NoNames}
use Rattle.method_types.proofs.method_names.tables.no_methods.Given as goal

abbrev pub invariant-loop : goal.invariant-loop
invariant-loop l = NoNames l.counter l.blocks.items
