use Rattle.literal_cycles.proofs.UsesStand.{uses_stand}
use Rattle.literal_cycles.proofs.SitesOut.{stands_so}
use Rattle.literal_cycles.proofs.laws.uses_stand_in_functions.Goals as goal

pub returns-clause-functions : goal.returns-clause-functions
returns-clause-functions c = λ marks st l after n i. uses_stand marks st l after n i

pub returns-clause-places : goal.returns-clause-places
returns-clause-places c = λ marks st l after n ms e part none. stands_so marks st l after n ms e part none
