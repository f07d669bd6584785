use Rattle.std.proofs.Common.{◌∙◌, sym, ap}
use Rattle.type_table.specs.declared.nodes.TypeNode.TheVariants.{Struct}
use Rattle.type_flags.specs.Flags.{under_flag}
use Rattle.type_flags.proofs.FlagLaws.{struct_row}
use Rattle.type_flags.proofs.flags.row_flag.Goals as goal

pub returns-in-Struct : goal.returns-in-Struct
returns-in-Struct c =
    struct_row (under_flag c.args.env.now c.args.flags.now) c.args.t.0 c.args.env.now.rows c.node.result.now
    c.deref.result.now c.all_flags.result c.node.ensures.row
    (c.in-Struct.is ∙ ap Struct (sym c.fields.view_is ∙ sym c.deref.ensures.value)) c.all_flags.ensures
