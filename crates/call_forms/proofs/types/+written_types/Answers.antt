use Rattle.call_forms.proofs.Lists.{fields_written}
use Rattle.call_forms.proofs.types.+written_types.Goals as goal

pub written_fields-returns : goal.written_fields-returns
written_fields-returns t c =
    fields_written c.args.there.now _ _ _ _ _ c.of.ensures.made c.items-field-items.ensures.seen c.loop-field.invariant
    c.loop-field-test.false
