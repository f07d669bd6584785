use Rattle.std.proofs.Common.{◌∙◌, sym, ap}
use Rattle.type_table.specs.declared.nodes.TypeNode.TheVariants.{Struct}
use Rattle.type_flags.specs.Flags.{flag_at}
use Rattle.named_types.specs.Steps.{number_at}
use Rattle.finite_types.proofs.FlagLaws.{struct_row}
use Rattle.finite_types.proofs.flags.row_flag.Goals as goal

pub returns-in-Struct : goal.returns-in-Struct
returns-in-Struct c =
    struct_row (flag_at c.args.flags.now (number_at c.args.next.now c.args.t.0)) (flag_at c.args.flags.now) c.args.t.0 c.args.types.now.rows c.node.result.now
    c.deref.result.now c.all_finite.result c.node.ensures.row
    (c.in-Struct.is ∙ ap Struct (sym c.fields.view_is ∙ sym c.deref.ensures.value)) c.all_finite.ensures
