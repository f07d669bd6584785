use Rattle.std.proofs.Common.{Err, subst}
use Rattle.package_blocks.specs.Headers.{header_of}
use Rattle.collected.specs.ValueHeaders.Values.{GivesValues}
use Rattle.collected.proofs.ValueHeaders.RefusalLemmas.{refusal_told, values_told}
use Rattle.collected.proofs.value_headers.refusals.has_values_in.Goals as goal

pub returns-in-Ok-clause-tells : goal.returns-in-Ok-clause-tells
returns-in-Ok-clause-tells c =
    λ e.
    values_told c.args.tables.now c.header_values.new.tables c.args.blocks.now c.args.file.now (header_of c.args.kind)
    c.in-Ok.values (c.in-Ok.ensures.gives e)

pub returns-in-Err-NotTyped-clause-tells : goal.returns-in-Err-NotTyped-clause-tells
returns-in-Err-NotTyped-clause-tells c =
    λ e.
    let k = c.args.tables.now in
    let m = c.header_values.new.tables in
    let bs = c.args.blocks.now in
    let file = c.args.file.now in
    let x = header_of c.args.kind in
    refusal_told k m bs file x
    (subst (λ r. GivesValues k m bs file x (Err r)) c.in-Err-NotTyped.field-0-is (c.in-Err-NotTyped.ensures.gives e))
