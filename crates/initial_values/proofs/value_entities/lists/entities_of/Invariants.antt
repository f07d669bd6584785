use Rattle.std.proofs.Common.{drop}
use Rattle.type_table.specs.TypeRelations.Environment.{defined_types}
use Rattle.operator_rules.specs.Settling.{typed_option}
use Rattle.initial_values.specs.ValueEntities.Steps.{AreRead}
use Rattle.initial_values.proofs.value_entities.lists.entities_of.Given as goal

abbrev pub invariant-loop-operand : goal.invariant-loop-operand
invariant-loop-operand l =
    AreRead l.tables.env l.tables.consts l.kind (defined_types l.tables.env) (typed_option l.tables.env l.of) l.operands
    (drop l.operand-index l.operands) l.items.items
