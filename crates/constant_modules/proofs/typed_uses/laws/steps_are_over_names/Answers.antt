use Rattle.constant_modules.proofs.TypedUses.Over.{steps_over}
use Rattle.constant_modules.proofs.typed_uses.laws.steps_are_over_names.Goals as goal

pub returns : goal.returns
returns c = steps_over
