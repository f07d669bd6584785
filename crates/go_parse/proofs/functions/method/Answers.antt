use Rattle.go_productions.specs.Cursors.{ahead}
use Rattle.go_parse.proofs.FunctionSteps.{method_is, method_none, method_open}
use Rattle.go_parse.proofs.functions.method.Goals as goal

pub returns-in_default-clause-gives : goal.returns-in_default-clause-gives
returns-in_default-clause-gives c = method_none _ _ (rw c.in_default.is at c.in_ok-receiver.ensures.gives)

pub returns-in_default-first : goal.returns-in_default-first
returns-in_default-first c = record { gives = method_open _ _ _ _ _ (rw c.in-Some.is at c.in_ok-receiver.ensures.gives) c.first.ensures.is c.in_default-first.not-EndParen; shorter = tt }

pub returns-clause-gives : goal.returns-clause-gives
returns-clause-gives c =
    rw (method_is (ahead c.args.whole) (ahead c.args.tokens) _ (ahead c.in-Some.after) (ahead c.rest.result) (rw c.in-Some.is at c.in_ok-receiver.ensures.gives) c.in-EndParen.ensures.is c.rest.ensures.is)
    c.function.ensures.gives
