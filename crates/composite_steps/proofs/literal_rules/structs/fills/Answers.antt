use Rattle.std.proofs.Common.{arith}
use mathlib.Core.Path.{sym}
use Rattle.type_table.specs.TypeRelations.Environment.{defined_types, env_type}
use Rattle.operator_rules.proofs.AccessRules.FieldLemmas.{field_part}
use Rattle.composite_steps.specs.LiteralRules.Elements.{element_at}
use Rattle.composite_steps.proofs.LiteralRules.ElementLemmas.{element_item, no_such}
use Rattle.composite_steps.proofs.LiteralRules.StructLemmas.{counts_differ}
use Rattle.composite_steps.proofs.literal_rules.structs.fills.Goals as goal

pub returns-then-fields-elements : goal.returns-then-fields-elements
returns-then-fields-elements c =
    let e = c.args.env.now in
    sym (counts_differ (defined_types e) c.args.home (env_type e) (element_at e c.args.consts.now) c.args.fields.now
    c.args.elements.now (omega arith))

pub fills_field-requires-clause-field : goal.fills_field-requires-clause-field
fills_field-requires-clause-field c =
    field_part c.args.env.now c.args.fields.now c.loop-i.i c.index-fields-i.result c.requires.fields (omega arith)
    c.index-fields-i.is

pub fills_field-requires-clause-element : goal.fills_field-requires-clause-element
fills_field-requires-clause-element c =
    element_item c.args.env.now c.args.consts.now c.args.elements.now c.loop-i.i no_such c.requires.elements (omega arith)
