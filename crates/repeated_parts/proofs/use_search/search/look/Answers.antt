use Rattle.std.proofs.Common.{◌∙◌, ap, subst, refl, Option, Some, inl}
use Rattle.constant_forms.specs.declared.reduced.ReducedConstant.{ReducedConstant}
use Rattle.repeated_parts.specs.UseSearch.Answers.{IsAnswer}
use Rattle.repeated_parts.proofs.use_search.search.look.Goals as goal

pub returns-in-Some-Becomes : goal.returns-in-Some-Becomes
returns-in-Some-Becomes c = (
  refl,
  (
    subst (λ (r : Option ReducedConstant). IsAnswer c.args.program.now c.args.file.now c.args.use_.now r)
        (c.in-Some-Becomes.is ∙ ap (λ (r : ReducedConstant). Some r) c.in-Some-Becomes.field-0-is) c.in_ok-answer.ensures,
    refl,
  ),
)

pub returns-in_ok-push-in-Some-Kept : goal.returns-in_ok-push-in-Some-Kept
returns-in_ok-push-in-Some-Kept c =
    inl (
      c.in-Some-Kept.obstacle,
      (
        subst (λ (r : Option ReducedConstant). IsAnswer c.args.program.now c.args.file.now c.args.use_.now r)
            (c.in-Some-Kept.is ∙ ap (λ (r : ReducedConstant). Some r) c.in-Some-Kept.field-0-is) c.in_ok-answer.ensures,
        c.in_ok-push-in-Some-Kept.ensures.items,
      ),
    )
