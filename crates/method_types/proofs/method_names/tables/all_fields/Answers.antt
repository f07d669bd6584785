use Rattle.std.proofs.Common.{◌+◌, subst, sym}
use Rattle.method_types.specs.MethodNames.Known.{FieldsSoFar}
use Rattle.method_types.proofs.MethodNames.TableLemmas.{fields_one}
use Rattle.method_types.proofs.method_names.tables.all_fields.Goals as goal

pub loop-number-preserved : goal.loop-number-preserved
loop-number-preserved c =
    subst (FieldsSoFar c.args.types.now (c.loop-number.number + 1)) (sym c.in_ok-push.ensures.items)
    (fields_one c.args.types.now c.loop-number.number c.loop-number.blocks.items c.in_ok-fields.fields
    c.loop-number.invariant c.in_ok-fields.ensures)
