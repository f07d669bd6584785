use Rattle.literal_imports.proofs.Kept.{literal_step}
use Rattle.literal_imports.proofs.laws.keeping_steps_are_literal_steps.Goals as goal

pub returns : goal.returns
returns z = λ x e k t. literal_step x e k t
