use Rattle.typed_in_place.proofs.Bodiless.{constants_as_specified}
use Rattle.typed_in_place.proofs.InitialBodiless.{variables_as_specified}
use Rattle.typed_in_place.proofs.laws.declared_without_bodies.Goals as goal

pub returns-clause-constants : goal.returns-clause-constants
returns-clause-constants c = λ a ns t es. constants_as_specified a ns t es

pub returns-clause-variables : goal.returns-clause-variables
returns-clause-variables c = λ a ns t es. variables_as_specified a ns t es
