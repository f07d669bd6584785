use Rattle.argument_cycles.proofs.LeftUses.Stay.{stays-around, stays-there}
use Rattle.argument_cycles.proofs.left_uses.laws.uses_leave_what_is_around.Goals as goal

pub returns-clause-stay : goal.returns-clause-stay
returns-clause-stay c = λ marks st l after n h. stays-around marks st l after n h

pub returns-clause-stay_there : goal.returns-clause-stay_there
returns-clause-stay_there c = λ marks st l after n h g e. stays-there marks st l after n h g e
