use Rattle.typed_in_place.proofs.SpansAside.{operand_spans_aside, statement_spans_aside}
use Rattle.typed_in_place.proofs.laws.the_same_but_for_spans.Goals as goal

pub returns-clause-expressions : goal.returns-clause-expressions
returns-clause-expressions c = λ around a e f q. operand_spans_aside around a e f q

pub returns-clause-statements : goal.returns-clause-statements
returns-clause-statements c = λ around a s r q. statement_spans_aside around a s r q
