use Rattle.literals_in_place.proofs.StepsInBodies.FoundOnce.{found_once}
use Rattle.literals_in_place.proofs.steps_in_bodies.found_uses_stand_once.Goals as goal

pub returns : goal.returns
returns z = λ marks st l after n reads tree part f h. found_once marks st l after n reads tree part f h
