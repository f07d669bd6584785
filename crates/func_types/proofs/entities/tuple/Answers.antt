use Rattle.func_types.proofs.ParamSteps.{tuple_is, tuple_values}
use Rattle.func_types.proofs.entities.tuple.Goals as goal

pub returns-clause-is : goal.returns-clause-is
returns-clause-is c =
    tuple_is c.args.types.now c.intern.new.self c.intern.ensures.types c.args.items c.requires c.intern.result
    c.intern.ensures.is

pub returns-clause-values : goal.returns-clause-values
returns-clause-values c =
    tuple_values c.args.types.now c.intern.new.self c.args.items c.intern.result c.intern.ensures.added
    c.intern.ensures.same c.intern.ensures.types
