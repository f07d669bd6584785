use Rattle.std.proofs.Common.{◌∙◌, Some, ap, sym}
use Rattle.typed_names.specs.declared.entities.Entity.TheVariants.{Constant}
use Rattle.go_show.proofs.ConstantLemmas.{constant_there}
use Rattle.go_show.proofs.values.value_line.Goals as goal

pub value-constant-requires : goal.value-constant-requires
value-constant-requires c =
    (constant_there c.args.declared.now.types.now c.args.declared.now.consts.now c.args.name.now
    (Constant c.in-Some-Constant.of c.in-Some-Constant.value) c.args.declared.now.blocks.now c.args.home.now.number
    c.requires.values (sym c.find.ensures ∙ c.in-Some-Constant.is ∙ ap Some c.in-Some-Constant.field-0-is)).0
