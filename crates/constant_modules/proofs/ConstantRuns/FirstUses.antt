-- The first use of a program of constants is that of a constant which is declared as a name, and its file is typed, before a
-- step over it is known.
use Rattle.std.proofs.Common.{◌≡◌}
use Rattle.go_tree.specs.Tree.{Expr}
use Rattle.order_runs.specs.CycleRuns.OrderCycles.NewNames.{AvoidsFew}
use Rattle.order_runs.proofs.RunSteps.SeatedUses.{Seated}
use Rattle.printed_constants.specs.TypedParts.MarkedRuns.NamedMarks.Named.{IsNamedConstant}
use Rattle.printed_constants.specs.TypedParts.MarkedRuns.SettledConstants.Laws.{ConstantsWrite}
use Rattle.printed_constants.proofs.TypedParts.MarkedRuns.NamedMarks.Used.{of-expr}
use Rattle.printed_constants.proofs.TypedParts.MarkedRuns.PutForms.FirstUses.{placed, makes, seated}
use Rattle.run_rules.specs.Sites.{an_expr}
use Rattle.run_rules.specs.Steps.{At}
use Rattle.splice_laws.specs.ImportSplices.FormSplices.Laws.{MakesForm}
use Rattle.constant_modules.specs.ApartKeys.Laws.{StepsPutNames, StepsRemoveNoValueKeys}
use Rattle.constant_modules.specs.ConstantRuns.FirstUses.{ConstantStepsTakeNamesThere, FirstUsesAreOfConstants, FirstUsesOfConstantsAreTyped}
use Rattle.constant_modules.specs.FewNames.Laws.{SmallTextsTakeFewNames}
use Rattle.constant_modules.specs.KeyedImports.StepLaws.{StepsKeepUses}
use Rattle.constant_modules.specs.NamedThere.Laws.{ConstantUsesStandThere}
use Rattle.constant_modules.specs.TypedForms.Laws.{FirstUsesAreTyped}
use Rattle.constant_modules.specs.TypedUses.Laws.{StepsUseExpressions, FirstUsesUseConstants}
use Rattle.constant_modules.proofs.FewNames.Few.{few-of}
use Rattle.constant_modules.proofs.NamedThere.Steps.{there}
use Rattle.constant_modules.proofs.TypedUses.NoTypes.{uses_expressions}

pub steps_take_there : StepsUseExpressions → SmallTextsTakeFewNames → ConstantsWrite → ConstantUsesStandThere → StepsPutNames → StepsRemoveNoValueKeys → StepsKeepUses → ConstantStepsTakeNamesThere
steps_take_there use_them take_few write stand put remove keep marks st l after n is = there use_them take_few write stand put remove keep marks st l after n is

pub uses_constants : FirstUsesUseConstants → FirstUsesAreOfConstants
uses_constants first marks st f old is u =
    let m : MakesForm marks st f = makes marks st f old u.is_first u.there in
    let e : (e : Expr At) × (f.site.part ≡ an_expr e) = uses_expressions marks st is.ready is.typed is.named f.site m.is_use in
    let s : Seated st.packages marks f.site = seated marks st f old u.is_first u.there in
    let c : IsNamedConstant st.packages f.site.mark = is.named f.site.mark (of-expr st.packages marks f.site.at f.site.place e.0 f.site.mark (s.is_use e.0 e.1)) in
    let few : AvoidsFew st.packages f = few-of marks st f m (placed marks st f old u.is_first u.there) c is.ready.reads is.ready.paths is.small in
    first marks st f old is.ready is.typed is.named u few

pub uses_typed : ConstantStepsTakeNamesThere → FirstUsesAreOfConstants → FirstUsesAreTyped → FirstUsesOfConstantsAreTyped
uses_typed take uses typed marks st f old form is u becomes =
    typed marks st f old form is.ready is.typed u (uses marks st f old is u) becomes (λ new tree x. take marks st _ x.after x.next is)
