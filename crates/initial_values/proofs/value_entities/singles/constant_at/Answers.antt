use Rattle.std.proofs.Common.{[], ◌∷◌, ◌∙◌, false, sym, true}
use Rattle.std.specs.Option.{option_map}
use Rattle.go_tree.specs.Tree.{expr_and, no_exprs}
use Rattle.go_tree.specs.View.{expr_of, type_of}
use Rattle.operator_rules.specs.Settling.{typed_option}
use Rattle.initial_values.specs.ValueEntities.Entities.{one_found}
use Rattle.initial_values.proofs.WalkedLemmas.{expr_walked}
use Rattle.initial_values.proofs.ValueEntities.SingleLemmas.{bodiless_alone, constants_refused}
use Rattle.initial_values.proofs.ValueEntities.SpecLemmas.{constants_typed, constants_with_bodies}
use Rattle.initial_values.proofs.value_entities.singles.constant_at.Goals as goal

pub returns-then-not-is_bodiless-clause-gives : goal.returns-then-not-is_bodiless-clause-gives
returns-then-not-is_bodiless-clause-gives c =
    λ n.
    let e = expr_of c.args.value.now in
    constants_with_bodies c.args.tables.now c.args.blocks.now c.args.scope.now (n ∷ [])
    (option_map type_of c.args.of.now) (expr_and e no_exprs)
    (bodiless_alone e c.is_bodiless.result false c.is_bodiless.ensures c.if-not-is_bodiless.true)

pub value_at-requires-clause-walked : goal.value_at-requires-clause-walked
value_at-requires-clause-walked c =
    expr_walked (expr_of c.args.value.now) (sym c.is_bodiless.ensures ∙ c.if-not-is_bodiless.false) c.requires.spelled

pub returns-in-Ok-clause-gives : goal.returns-in-Ok-clause-gives
returns-in-Ok-clause-gives c =
    λ n.
    let e = expr_of c.args.value.now in
    let m = c.written_type.new.tables in
    constants_typed c.args.tables.now c.args.blocks.now c.args.scope.now (n ∷ []) (option_map type_of c.args.of.now)
    (expr_and e no_exprs) m c.written_type.ensures.keeps c.requires.stands c.value_at.new.tables
    (one_found c.value_at.result) (typed_option m.env c.in-Ok.t)
    (bodiless_alone e c.is_bodiless.result true c.is_bodiless.ensures c.if-not-is_bodiless.false)
    c.in-Ok.ensures.gives.1 (c.value_at.ensures.gives n.name)

pub returns-in-Err-clause-gives : goal.returns-in-Err-clause-gives
returns-in-Err-clause-gives c =
    λ n.
    constants_refused c.args.tables.now c.written_type.new.tables c.args.blocks.now c.args.scope.now (n ∷ [])
    (option_map type_of c.args.of.now) (expr_and (expr_of c.args.value.now) no_exprs) c.in-Err.refusal
    c.in-Err.ensures.gives
