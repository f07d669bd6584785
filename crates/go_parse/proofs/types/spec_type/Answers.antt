use Rattle.go_parse.proofs.TypeSteps.{after_some, after_none}
use Rattle.go_parse.proofs.types.spec_type.Goals as goal

pub returns-in_default-clause-gives : goal.returns-in_default-clause-gives
returns-in_default-clause-gives c = after_none _ _ _ _ (rw c.in_default.is at c.in_ok-of.ensures.gives)

pub returns-clause-gives : goal.returns-clause-gives
returns-clause-gives c = after_some _ _ _ _ _ _ _ (rw c.in-Some.is at c.in_ok-of.ensures.gives) c.span_to-span.ensures
