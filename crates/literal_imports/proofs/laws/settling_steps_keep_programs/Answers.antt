use Rattle.literal_imports.proofs.Settled.{well_typed_settled, shown_settled}
use Rattle.literal_imports.proofs.laws.settling_steps_keep_programs.Goals as goal

pub returns : goal.returns
returns z = λ x e k t. (well_typed_settled x e k t, λ main choices n. shown_settled x e k t main choices n)
