use Rattle.constant_modules.proofs.TypedUses.NoTypes.{steps_use}
use Rattle.constant_modules.proofs.typed_uses.laws.steps_use_expressions.Goals as goal

pub returns : goal.returns
returns c = steps_use
