use Rattle.std.proofs.Common.{sym, subst}
use Rattle.statement_walk.specs.FunctionLiterals.Params.{GivesBound}
use Rattle.checked_modules.specs.FunctionBodies.Receivers.{variable_binds}
use Rattle.checked_modules.proofs.function_bodies.receivers.declare_receiver.Goals as goal

pub returns-in-Some-clause-gives : goal.returns-in-Some-clause-gives
returns-in-Some-clause-gives c =
    λ e cs bs env p.
    subst
    (λ v. GivesBound e cs bs c.declare_variable.new.scope c.declare_variable.new.block.names env (variable_binds e v) c.declare_variable.result)
    (sym c.in-Some.is) (c.declare_variable.ensures.gives e cs bs env p)
