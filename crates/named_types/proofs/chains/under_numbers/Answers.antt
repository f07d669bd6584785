use Rattle.std.proofs.Common.{◌∙◌, ap, length}
use Rattle.std.proofs.lemmas.Result.{IfOk-weaker}
use Rattle.named_types.specs.Steps.{number_at}
use Rattle.named_types.proofs.ChainSteps.{steps_under}
use Rattle.named_types.proofs.chains.under_numbers.Goals as goal

pub returns : goal.returns
returns c =
    let ds = c.args.declared.now in
    IfOk-weaker c.after_steps.result _ _
    (λ numbers h t.
    h t
    ∙ steps_under ds c.deref.result.now
    (λ u. ap (λ xs. number_at xs u) c.deref.ensures.value ∙ c.in_ok-next.ensures.are u) (length ds) t)
    c.after_steps.ensures.are
