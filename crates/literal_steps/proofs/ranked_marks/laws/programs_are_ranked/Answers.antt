use Rattle.literal_steps.proofs.RankedMarks.ProgramRanked.{calls-lead, program-ranked, free-call}
use Rattle.literal_steps.proofs.ranked_marks.laws.programs_are_ranked.Goals as goal

pub returns-clause-calls : goal.returns-clause-calls
returns-clause-calls c = λ ps marks ms all plain f g a b x y asked. calls-lead ps marks ms all plain f a x g b y asked

pub returns-clause-ranked : goal.returns-clause-ranked
returns-clause-ranked c = λ ps marks ms all plain f e. program-ranked ps marks ms all plain f e

pub returns-clause-meaning : goal.returns-clause-meaning
returns-clause-meaning c = λ ps marks ms all plain f e A a. free-call ps marks ms all plain f e A a
