use Rattle.std.proofs.Common.{false, ◌∙◌, sym, ap}
use Rattle.type_table.specs.declared.nodes.TypeNode.TheVariants.{Struct}
use Rattle.type_flags.specs.Flags.{flag_at}
use Rattle.finite_types.proofs.FlagLaws.{struct_row}
use Rattle.finite_types.proofs.grown.later_flag.Goals as goal

pub returns-in-Struct : goal.returns-in-Struct
returns-in-Struct c =
    struct_row false (flag_at c.args.flags.now) c.args.t.0 c.args.types.now.rows c.node.result.now
    c.deref.result.now c.all_finite.result c.node.ensures.row
    (c.in-Struct.is ∙ ap Struct (sym c.fields.view_is ∙ sym c.deref.ensures.value)) c.all_finite.ensures
