use Rattle.std.proofs.Common.{◌∙◌, sym, ap}
use Rattle.type_table.specs.declared.nodes.TypeNode.TheVariants.{Struct}
use Rattle.type_flags.specs.Flags.{flag_at}
use Rattle.type_flags.proofs.KeyLaws.{struct_keyed}
use Rattle.type_flags.proofs.keys.row_keyed.Goals as goal

pub returns-in-Struct : goal.returns-in-Struct
returns-in-Struct c =
    struct_keyed (flag_at c.args.comparable.now) (flag_at c.args.keyed.now) c.args.env.now.rows c.args.t.0 c.node.result.now
    c.deref.result.now c.all_keyed.result c.node.ensures.row
    (c.in-Struct.is ∙ ap Struct (sym c.fields.view_is ∙ sym c.deref.ensures.value)) c.all_keyed.ensures
