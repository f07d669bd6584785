use Rattle.std.proofs.Common.{arith}
use Rattle.operator_rules.proofs.AccessRules.FieldLemmas.{field_part}
use Rattle.operator_rules.proofs.access_rules.fields.find_field.Goals as goal

pub returns-then-is_field-clause-good : goal.returns-then-is_field-clause-good
returns-then-is_field-clause-good c =
    field_part c.args.env.now c.args.fields.now c.loop-field.field-index c.field-item.result c.requires (omega arith)
    c.field-item.is
