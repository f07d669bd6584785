use Rattle.literals_in_place.proofs.TypedSteps.Shows.{step_shows}
use Rattle.literals_in_place.proofs.typed_steps.typed_steps_show_the_same.Goals as goal

pub returns : goal.returns
returns z = λ x e q all plain stays. step_shows x e q all plain stays
