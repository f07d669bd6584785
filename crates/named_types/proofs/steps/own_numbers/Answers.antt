use Rattle.std.proofs.Common.{◌∙◌, length, ap, arith}
use Rattle.std.proofs.lemmas.List.{length_push}
use Rattle.named_types.specs.Steps.{number_at}
use Rattle.named_types.proofs.StepLaws.{own_more}
use Rattle.named_types.proofs.steps.own_numbers.Goals as goal

pub loop-t-preserved : goal.loop-t-preserved
loop-t-preserved c =
    let xs = c.loop-t.numbers.items in
    let t = c.loop-t.t in
    let q = c.in_ok-push.ensures.items in (
      omega (arith, ap length q, length_push xs t, c.loop-t.invariant.0),
      λ i. ap (λ ys. number_at ys i) q ∙ own_more xs t c.loop-t.invariant.0 c.loop-t.invariant.1 i,
    )
