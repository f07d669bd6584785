use Rattle.std.proofs.Common.{length, arith}
use Rattle.type_flags.proofs.FlagLaws.{field_item}
use Rattle.type_flags.proofs.flags.all_flags.Goals as goal

pub under_flag-requires : goal.under_flag-requires
under_flag-requires c =
    field_item (length c.args.env.now.rows) c.args.fields.now c.requires c.loop-field.field-index c.field-item.result
    (omega arith) c.field-item.is
