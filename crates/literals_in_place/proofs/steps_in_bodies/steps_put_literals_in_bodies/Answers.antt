use Rattle.literals_in_place.proofs.StepsInBodies.Packages.{in_body, in_packages}
use Rattle.literals_in_place.proofs.StepsInBodies.TypedPackages.{bodies_alike}
use Rattle.literals_in_place.proofs.steps_in_bodies.steps_put_literals_in_bodies.Goals as goal

pub returns-clause-bodies : goal.returns-clause-bodies
returns-clause-bodies z = λ same x tree e here calls form facts blank rank callee n paths h p b al once clear. in_body same x tree e here calls form facts blank rank callee n paths h p b al once clear

pub returns-clause-packages : goal.returns-clause-packages
returns-clause-packages z = λ same rs x tree e here calls form facts blank rank callee ms q r. in_packages same x tree e here calls form facts blank rank callee rs ms r q

pub returns-clause-typed : goal.returns-clause-typed
returns-clause-typed z = λ same rs x tree e here calls form facts blank rank callee ms q r. bodies_alike same x tree e here calls form facts blank rank callee rs ms r q
