use Rattle.literal_steps.proofs.RankedMarks.RanksFall.{reached-led_to, ranks-fall, ranks-bounded, ranks-below}
use Rattle.literal_steps.proofs.ranked_marks.laws.functions_have_ranks.Goals as goal

pub returns-clause-reached : goal.returns-clause-reached
returns-clause-reached c = λ ps marks a b. reached-led_to ps marks a b

pub returns-clause-fall : goal.returns-clause-fall
returns-clause-fall c = λ ps marks a b h off. ranks-fall ps marks a b h off

pub returns-clause-bounded : goal.returns-clause-bounded
returns-clause-bounded c = λ ps marks a. ranks-bounded ps marks a

pub returns-clause-below : goal.returns-clause-below
returns-clause-below c = λ ps marks a h off. ranks-below ps marks a h off
