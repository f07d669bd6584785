use Rattle.literal_surroundings.proofs.LiteralSteps.{stays, puts_literal}
use Rattle.literal_surroundings.proofs.laws.literals_leave_what_is_around.Goals as goal

pub returns-clause-stay : goal.returns-clause-stay
returns-clause-stay c = λ marks st l after n k. stays marks st l after n k

pub returns-clause-puts : goal.returns-clause-puts
returns-clause-puts c = λ marks st l after n k. puts_literal marks st l after n k
