use Rattle.std.proofs.Common.{[], ◌∷◌, ◌∙◌, None, false, subst, sym, true}
use Rattle.go_tree.specs.Tree.{expr_and, no_exprs}
use Rattle.go_tree.specs.View.{expr_of}
use Rattle.operator_rules.specs.Settling.{typed_option}
use Rattle.expr_walk.proofs.WalkArms.ExprArms.{at}
use Rattle.initial_values.proofs.WalkedLemmas.{expr_walked}
use Rattle.initial_values.specs.declared.value_entities.entities.ValueKind.TheVariants as kind
use Rattle.initial_values.specs.ValueEntities.Entities.{GivesBinds, one_found}
use Rattle.initial_values.specs.ValueEntities.Steps.{binds_by}
use Rattle.initial_values.proofs.ValueEntities.SingleLemmas.{bodiless_alone, initial_alone}
use Rattle.initial_values.proofs.ValueEntities.SpecLemmas.{initial_valued, option_same, valued_not_initial, valued_with_bodies}
use Rattle.initial_values.proofs.value_entities.singles.valued_variable.Goals as goal

pub returns-then-not-is_bodiless-clause-gives : goal.returns-then-not-is_bodiless-clause-gives
returns-then-not-is_bodiless-clause-gives c =
    λ n.
    let e = expr_of c.args.value.now in
    valued_with_bodies c.args.tables.now c.args.blocks.now c.args.scope.now (n ∷ []) None (expr_and e no_exprs)
    (typed_option c.args.tables.now.env c.args.of)
    (bodiless_alone e c.is_bodiless.result false c.is_bodiless.ensures c.if-not-is_bodiless.true)

pub is_initial-requires-clause-walked : goal.is_initial-requires-clause-walked
is_initial-requires-clause-walked c =
    expr_walked (expr_of c.args.value.now) (sym c.is_bodiless.ensures ∙ c.if-not-is_bodiless.false) c.requires.spelled

pub value_at-requires-clause-walked : goal.value_at-requires-clause-walked
value_at-requires-clause-walked c =
    expr_walked (expr_of c.args.value.now) (sym c.is_bodiless.ensures ∙ c.if-not-is_bodiless.false) c.requires.spelled

pub returns-in-Ok-true-clause-gives : goal.returns-in-Ok-true-clause-gives
returns-in-Ok-true-clause-gives c =
    λ n.
    let k = c.args.tables.now in
    let m = c.is_initial.new.tables in
    let z = c.value_at.new.tables in
    let bs = c.args.blocks.now in
    let s = c.args.scope.now in
    let e = expr_of c.args.value.now in
    let es = expr_and e no_exprs in
    initial_valued k bs s (n ∷ []) None es m c.is_initial.ensures.keeps c.requires.stands z
    (one_found c.value_at.result) (typed_option k.env c.args.of)
    (bodiless_alone e c.is_bodiless.result true c.is_bodiless.ensures c.if-not-is_bodiless.false)
    (initial_alone (at k bs s) e c.in-Ok-true.field-0 true c.in-Ok-true.ensures.is c.in-Ok-true.field-0-test)
    (subst
    (λ t. GivesBinds z.env z.consts (n.name ∷ []) (binds_by kind.Variable (at m bs s) t (n.name ∷ []) es) (one_found c.value_at.result))
    (option_same k m c.is_initial.ensures.keeps c.args.of c.requires.of) (c.value_at.ensures.gives n.name))

pub returns-in-Ok-false-clause-gives : goal.returns-in-Ok-false-clause-gives
returns-in-Ok-false-clause-gives c =
    λ n.
    let k = c.args.tables.now in
    let e = expr_of c.args.value.now in
    valued_not_initial k c.args.blocks.now c.args.scope.now (n ∷ []) None (expr_and e no_exprs)
    (typed_option k.env c.args.of)
    (initial_alone (at k c.args.blocks.now c.args.scope.now) e c.in-Ok-false.field-0 false c.in-Ok-false.ensures.is
    c.in-Ok-false.field-0-test)
