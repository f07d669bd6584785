use Rattle.literals_in_place.proofs.TypedSteps.Shows.{well_typed_after, shows_after}
use Rattle.literal_imports.proofs.Kept.{literal_step}
use Rattle.literal_imports.proofs.laws.keeping_steps_keep_programs.Goals as goal

pub returns : goal.returns
returns z = λ x e k t. (well_typed_after x e (literal_step x e k t) t, λ main choices n. shows_after x e (literal_step x e k t) t main choices n)
