use Rattle.go_parse.proofs.FunctionSteps.{here_is}
use Rattle.go_parse.proofs.functions.receiver_from.Goals as goal

pub returns-clause-gives : goal.returns-clause-gives
returns-clause-gives c = here_is _ _ _ _ _ _ _ c.rest-after.ensures.is c.span_to-span.ensures c.in_ok-of.ensures
