use Rattle.literals_in_place.proofs.Bodies.{body_typed, body_term}
use Rattle.literals_in_place.proofs.laws.bodies_stay_with_imports.Goals as goal

pub returns-clause-typed : goal.returns-clause-typed
returns-clause-typed z = λ same commented rs marks x u v ms l f c d h a b o k before. body_typed same commented rs marks x u v ms l f c d h a b o k before

pub returns-clause-terms : goal.returns-clause-terms
returns-clause-terms z = λ same commented rs marks x u v ms l f c d h a b o. body_term same commented rs marks x u v ms l f c d h a b o
