use Rattle.std.proofs.Common.{◌∙◌, ◌+◌, ◌/◌, ℕ, ap, ap₂, arith, refl}
use Rattle.std.proofs.lemmas.Result.{IfOk-weaker}
use Rattle.named_types.specs.Steps.{number_at}
use Rattle.named_types.proofs.StepLaws.{even_steps, odd_steps}
use Rattle.named_types.proofs.steps.+after_steps.Goals as goal

pub returns-then-count-eq0-2-clause-are : goal.returns-then-count-eq0-2-clause-are
returns-then-count-eq0-2-clause-are t c =
    even_steps c.args.next.now c.in_ok-half.half.items c.in_ok-even.even.items (c.args.count / 2) c.args.count
    (omega arith) c.in_ok-half.ensures.are
    (λ u.
    c.in_ok-even.ensures.are u
    ∙ ap₂ (λ a b. number_at b (number_at a u)) c.deref.ensures.value c.deref-2.ensures.value)

pub returns-clause-are : goal.returns-clause-are
returns-clause-are t c =
    let h : ℕ = c.args.count / 2 in
    IfOk-weaker c.both_steps-else-count-eq0-2.result _ _
    (λ numbers l u.
    odd_steps c.args.next.now c.in_ok-even.even.items numbers.items (h + h) c.args.count (omega arith)
    (even_steps c.args.next.now c.in_ok-half.half.items c.in_ok-even.even.items h (h + h) refl
    c.in_ok-half.ensures.are
    (λ v.
    c.in_ok-even.ensures.are v
    ∙ ap₂ (λ a b. number_at b (number_at a v)) c.deref.ensures.value c.deref-2.ensures.value))
    (λ v. l v ∙ ap (λ b. number_at b (number_at c.args.next.now v)) c.deref-else-count-eq0-2.ensures.value) u)
    c.both_steps-else-count-eq0-2.ensures.are
