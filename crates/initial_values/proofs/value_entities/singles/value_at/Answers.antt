use Rattle.go_tree.specs.View.{expr_of}
use Rattle.initial_values.proofs.ValueEntities.SingleLemmas.{value_bound, value_refused, value_unbound}
use Rattle.initial_values.proofs.value_entities.singles.value_at.Goals as goal

pub operand_entity-requires-clause-operand : goal.operand_entity-requires-clause-operand
operand_entity-requires-clause-operand c = c.in-Ok.ensures.gives.there.good

pub returns-in-Err-clause-gives : goal.returns-in-Err-clause-gives
returns-in-Err-clause-gives c =
    λ n.
    value_refused c.args.tables.now c.expr.new.tables c.args.blocks.now c.args.scope.now c.expr.ensures.keeps
    c.args.kind c.args.of c.requires.of n (expr_of c.args.value.now) c.in-Err.refusal c.in-Err.ensures.gives

pub returns-in-Some-clause-gives : goal.returns-in-Some-clause-gives
returns-in-Some-clause-gives c =
    λ n.
    value_bound c.args.tables.now c.expr.new.tables c.args.blocks.now c.args.scope.now c.expr.ensures.keeps c.args.kind
    c.args.of c.requires.of n (expr_of c.args.value.now) c.in-Ok.found c.in-Ok.ensures.gives c.in-Some.entity
    c.in-Some.ensures.is c.in-Some.ensures.there

pub returns-in-None-clause-gives : goal.returns-in-None-clause-gives
returns-in-None-clause-gives c =
    λ n.
    value_unbound c.args.tables.now c.expr.new.tables c.args.blocks.now c.args.scope.now c.expr.ensures.keeps
    c.args.kind c.args.of c.requires.of n (expr_of c.args.value.now) c.in-Ok.found c.in-Ok.ensures.gives
    c.in-None.ensures.is
