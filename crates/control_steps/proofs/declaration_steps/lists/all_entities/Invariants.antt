use Rattle.std.specs.Prelude.{map}
use Rattle.std.proofs.Common.{drop}
use Rattle.type_table.specs.TypeRelations.Environment.{defined_types}
use Rattle.type_table.specs.OperandRules.Values.{typed_of}
use Rattle.operator_rules.specs.Settling.{typed_option}
use Rattle.control_steps.specs.DeclarationSteps.Entities.{BoundSoFar, entity_for}
use Rattle.control_steps.proofs.declaration_steps.lists.all_entities.Given as goal

abbrev pub invariant-loop-x : goal.invariant-loop-x
invariant-loop-x l =
    BoundSoFar l.tables.env l.tables.consts
    (entity_for l.declares (defined_types l.tables.env) (typed_option l.tables.env l.of))
    (map (typed_of l.tables.env l.tables.consts) l.xs)
    (map (typed_of l.tables.env l.tables.consts) (drop l.x-index l.xs)) l.entities.items
