use Rattle.literals_in_place.proofs.TypedSteps.Shows.{well_typed_after, shows_after}
use Rattle.literals_in_place.proofs.typed_steps.literal_steps_keep_programs.Goals as goal

pub returns : goal.returns
returns z = λ x e s t. (well_typed_after x e s t, λ main choices n. shows_after x e s t main choices n)
