use Rattle.literals_in_place.proofs.FurtherFacts.{facts_reached, facts_beside}
use Rattle.literals_in_place.proofs.laws.facts_stay_beside_others.Goals as goal

pub returns-clause-reached : goal.returns-clause-reached
returns-clause-reached z = λ r left right same env i around e f h. facts_reached r left right same env i around e f h

pub returns-clause-literals : goal.returns-clause-literals
returns-clause-literals z = λ same commented rs marks x u v ms l names d h y e q around a more o i. facts_beside same commented rs marks x u v ms l names d h y e q around a more o i
