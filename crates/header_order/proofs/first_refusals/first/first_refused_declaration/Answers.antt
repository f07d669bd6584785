use Rattle.std.proofs.Common.{◌∙◌}
use Rattle.header_order.proofs.FirstRefusals.Found.{declaration_found}
use Rattle.header_order.proofs.first_refusals.first.first_refused_declaration.Goals as goal

pub returns : goal.returns
returns c =
    λ files are refused imports.
    c.first_told.ensures
    ∙ declaration_found c.one_order_at_most.ensures.unique c.args.packages.now c.args.order.now c.requires
    c.args.headers.now c.args.refused.now c.args.imports.now c.deref.result.now c.deref-2.result.now
    (c.deref.ensures.value ∙ c.in_ok-marks.ensures) (λ f. c.deref-2.ensures.value ∙ c.in_ok-firsts.ensures f) files are
    refused imports
