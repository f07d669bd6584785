use Rattle.literal_steps.proofs.RankedMarks.ProgramRanked.{named-bounded, free-below}
use Rattle.literal_steps.proofs.ranked_marks.laws.marks_bound_ranks.Goals as goal

pub returns-clause-bounded : goal.returns-clause-bounded
returns-clause-bounded c = λ ps marks paths f. named-bounded ps marks paths f

pub returns-clause-below : goal.returns-clause-below
returns-clause-below c = λ ps marks paths f e. free-below ps marks paths f e
