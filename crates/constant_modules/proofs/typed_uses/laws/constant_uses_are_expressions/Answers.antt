use Rattle.constant_modules.proofs.TypedUses.NoTypes.{uses_expressions}
use Rattle.constant_modules.proofs.typed_uses.laws.constant_uses_are_expressions.Goals as goal

pub returns : goal.returns
returns c = uses_expressions
