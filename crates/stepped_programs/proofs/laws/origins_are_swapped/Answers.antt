use Rattle.stepped_programs.proofs.Found.{found_put}
use Rattle.stepped_programs.proofs.Held.{origins_of_steps}
use Rattle.stepped_programs.proofs.SwappedParts.{origins_swapped}
use Rattle.stepped_programs.proofs.laws.origins_are_swapped.Goals as goal

pub returns-clause-swapped : goal.returns-clause-swapped
returns-clause-swapped c = origins_swapped c.parts_are_among_all.ensures.standing

pub returns-clause-steps : goal.returns-clause-steps
returns-clause-steps c = origins_of_steps c.parts_are_among_all.ensures.standing

pub returns-clause-found : goal.returns-clause-found
returns-clause-found c = found_put c.parts_are_among_all.ensures.standing
