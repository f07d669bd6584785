use Rattle.printed_constants.proofs.TypedParts.MarkedRuns.KeptMarks.Kept.{is-over, stays}
use Rattle.printed_constants.proofs.typed_parts.marked_runs.kept_marks.marks_stay_named.Goals as goal

pub returns-clause-over : goal.returns-clause-over
returns-clause-over c = λ marks st l after n all over removes. is-over marks st l after n over all removes

pub returns-clause-stay : goal.returns-clause-stay
returns-clause-stay c = λ marks st l after n ready all over. stays marks st l after n over c.constants_settle.ensures.writes ready all
