use Rattle.std.proofs.Common.{[], ◌∷◌, refl}
use Rattle.std.specs.Option.{option_map}
use Rattle.go_tree.specs.Tree.{expr_and, no_exprs}
use Rattle.go_tree.specs.View.{expr_of, type_of}
use Rattle.operator_rules.specs.Settling.{typed_option}
use Rattle.initial_values.specs.ValueEntities.Entities.{one_found}
use Rattle.initial_values.proofs.ValueEntities.SingleLemmas.{variables_refused}
use Rattle.initial_values.proofs.ValueEntities.SpecLemmas.{variables_valued}
use Rattle.initial_values.proofs.value_entities.singles.variable_at.Goals as goal

pub returns-in-Ok-clause-gives : goal.returns-in-Ok-clause-gives
returns-in-Ok-clause-gives c =
    λ n.
    let m = c.written_type.new.tables in
    variables_valued c.args.tables.now c.args.blocks.now c.args.scope.now (n ∷ []) (option_map type_of c.args.of.now)
    (expr_and (expr_of c.args.value.now) no_exprs) m c.written_type.ensures.keeps c.requires.stands
    c.valued_variable.new.tables (one_found c.valued_variable.result) (typed_option m.env c.in-Ok.t) refl
    c.in-Ok.ensures.gives.1 (c.valued_variable.ensures.gives n)

pub returns-in-Err-clause-gives : goal.returns-in-Err-clause-gives
returns-in-Err-clause-gives c =
    λ n.
    variables_refused c.args.tables.now c.written_type.new.tables c.args.blocks.now c.args.scope.now (n ∷ [])
    (option_map type_of c.args.of.now) (expr_and (expr_of c.args.value.now) no_exprs) c.in-Err.refusal
    c.in-Err.ensures.gives
