use Rattle.expression_spans.proofs.TokensLie.{tokens_lie}
use Rattle.expression_spans.proofs.Files.{front_ascends, front_holds, front_apart}
use Rattle.expression_spans.proofs.laws.spans_of_expressions_ascend.Goals as goal

pub returns-clause-ascend : goal.returns-clause-ascend
returns-clause-ascend c = λ text tokens comments f of spells. front_ascends spells (tokens_lie text tokens comments of)

pub returns-clause-within : goal.returns-clause-within
returns-clause-within c = λ text tokens comments f of spells. front_holds spells (tokens_lie text tokens comments of)

pub returns-clause-apart : goal.returns-clause-apart
returns-clause-apart c = λ text tokens comments f of spells. front_apart spells (tokens_lie text tokens comments of)
