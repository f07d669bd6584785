use Rattle.std.proofs.Common.{◌∙◌, ap, length, replicate}
use Rattle.typed_names.specs.declared.entities.Entity.TheVariants.{Refused}
use Rattle.collected.proofs.ValueHeaders.RefusalLemmas.{all_refused, all_there, refusals_count}
use Rattle.collected.proofs.value_headers.refusals.refuse_all.Goals as goal

pub set_values-requires : goal.set_values-requires
set_values-requires c =
    ap length (c.deref.ensures.value ∙ c.in_ok-items.ensures) ∙ refusals_count (length c.items.result.now)
    ∙ ap length c.items.ensures

pub returns-clause-set : goal.returns-clause-set
returns-clause-set c =
    all_refused c.args.home c.args.names.now c.deref.result.now c.args.blocks.now c.set_values.new.blocks
    c.set_values.result
    (c.deref.ensures.value ∙ c.in_ok-items.ensures ∙ ap (λ ns. replicate (length ns) Refused) c.items.ensures)
    c.set_values.ensures.set

pub returns-clause-there : goal.returns-clause-there
returns-clause-there c =
    all_there c.deref.result.now (length c.items.result.now) c.args.blocks.now c.set_values.new.blocks
    c.set_values.result (c.deref.ensures.value ∙ c.in_ok-items.ensures) c.set_values.ensures.there
