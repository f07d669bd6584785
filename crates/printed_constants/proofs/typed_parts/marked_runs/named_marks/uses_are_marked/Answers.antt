use Rattle.printed_constants.proofs.TypedParts.MarkedRuns.NamedMarks.Used.{uses-marked, named-used}
use Rattle.printed_constants.proofs.typed_parts.marked_runs.named_marks.uses_are_marked.Goals as goal

pub returns-clause-marked : goal.returns-clause-marked
returns-clause-marked c = λ marks st l after n e part. uses-marked marks st l after n e part

pub returns-clause-used : goal.returns-clause-used
returns-clause-used c = λ marks st l after n e all part. named-used marks st l after n e part all
