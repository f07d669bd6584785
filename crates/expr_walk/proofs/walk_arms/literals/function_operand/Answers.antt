use Rattle.func_types.specs.Answers.{func_of}
use Rattle.expr_walk.proofs.walk_arms.literals.function_operand.Goals as goal

pub returns-clause-gives : goal.returns-clause-gives
returns-clause-gives c =
    let k = c.args.tables.now in
    c.named_function.ensures c.function_entity.new.types k.consts (func_of k.env c.args.of) c.in_ok-entity.ensures.typed
    (c.in_ok-entity.ensures.is k.consts)
