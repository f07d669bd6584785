use Rattle.go_parse.proofs.ImportSteps.{grouped_none, grouped_some}
use Rattle.go_parse.proofs.imports.grouped_import.Goals as goal

pub returns-in_default-clause-gives : goal.returns-in_default-clause-gives
returns-in_default-clause-gives c = grouped_none _ _ (rw c.in_default.is at c.in_ok-specs.ensures.gives)

pub returns-clause-gives : goal.returns-clause-gives
returns-clause-gives c = grouped_some _ _ _ _ _ (rw c.in-Some.is at c.in_ok-specs.ensures.gives) c.span_to-span.ensures
