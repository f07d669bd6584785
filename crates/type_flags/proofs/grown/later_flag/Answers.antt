use Rattle.std.proofs.Common.{◌∙◌, sym, ap}
use Rattle.type_table.specs.declared.nodes.TypeNode.TheVariants.{Struct}
use Rattle.type_flags.specs.Flags.{flag_at}
use Rattle.type_flags.proofs.GrownFlags.{struct_later}
use Rattle.type_flags.proofs.grown.later_flag.Goals as goal

pub returns-in-Struct : goal.returns-in-Struct
returns-in-Struct c =
    struct_later (flag_at c.args.flags.now) c.args.env.now.rows c.args.t.0 c.node.result.now c.deref.result.now
    c.all_keyed.result c.node.ensures.row
    (c.in-Struct.is ∙ ap Struct (sym c.fields.view_is ∙ sym c.deref.ensures.value)) c.all_keyed.ensures
