use Rattle.std.proofs.Common.{◌∙◌, Some, ap, subst, sym}
use Rattle.operator_rules.specs.AccessRules.Selections.{IsSelected, selected_option}
use Rattle.selector_steps.proofs.SelectorLemmas.{method_is}
use Rattle.selector_steps.proofs.selections.owned.Goals as goal

pub returns-in-Field : goal.returns-in-Field
returns-in-Field c =
    λ e o s h k. (
      subst (IsSelected e) c.in-Field.is h,
      sym s ∙ ap (λ x. selected_option e (Some x)) c.in-Field.is,
    )

pub returns-in-Ok : goal.returns-in-Ok
returns-in-Ok c =
    λ e o s h k.
    method_is e c.in-Method.function.now c.in-Ok.copy o c.in-Ok.ensures.params c.in-Ok.ensures.results
    (ap (λ x. selected_option e (Some x)) (sym c.in-Method.is) ∙ s) k
