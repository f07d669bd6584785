use Rattle.literal_surroundings.proofs.LiteralSteps.{keeps_cycles}
use Rattle.literal_surroundings.proofs.laws.literals_in_bodies_keep_cycles.Goals as goal

pub returns : goal.returns
returns c = λ marks st l after n h reads s k m. keeps_cycles marks st l after n k h reads s m
