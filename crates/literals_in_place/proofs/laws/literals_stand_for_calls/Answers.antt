use Rattle.literals_in_place.proofs.Facts.{same_facts}
use Rattle.literals_in_place.proofs.Literals.{operand_stands, deferred_stands}
use Rattle.literals_in_place.proofs.Mentions.{mentioned_alike}
use Rattle.literals_in_place.proofs.laws.literals_stand_for_calls.Goals as goal

pub returns-clause-operands : goal.returns-clause-operands
returns-clause-operands z = λ same commented rs marks x u v ms l more d h y e q free A rank ranked is_free j k around a. operand_stands same commented rs marks x u v ms l more d h y e q free A rank ranked is_free j k around a

pub returns-clause-deferred : goal.returns-clause-deferred
returns-clause-deferred z = λ same commented rs marks x u v ms l more d h y e q free A rank ranked is_free j k around a. deferred_stands same commented rs marks x u v ms l more d h y e q free A rank ranked is_free j k around a

pub returns-clause-mentions : goal.returns-clause-mentions
returns-clause-mentions z = λ same commented rs marks x u v ms l more d h y w e q around a. mentioned_alike same commented rs marks x u v ms l more d h y w around a e q

pub returns-clause-facts : goal.returns-clause-facts
returns-clause-facts z = λ same commented rs marks x u v ms l more d h y e q around a. same_facts same commented rs marks x u v ms l more d h y around a e q
