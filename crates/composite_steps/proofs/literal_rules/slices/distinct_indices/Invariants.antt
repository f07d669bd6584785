use Rattle.std.proofs.Common.{drop}
use Rattle.type_table.specs.TypeRelations.Environment.{defined_types}
use Rattle.composite_steps.specs.LiteralRules.Elements.{elements_at}
use Rattle.composite_steps.specs.LiteralRules.Indices.{IndicesRead}
use Rattle.composite_steps.proofs.literal_rules.slices.distinct_indices.Given as goal

abbrev pub invariant-loop-x : goal.invariant-loop-x
invariant-loop-x l =
    IndicesRead (defined_types l.env) (elements_at l.env l.consts l.elements)
    (elements_at l.env l.consts (drop l.x-index l.elements)) l.next l.seen
