use Rattle.constant_modules.proofs.TypedUses.Over.{first_uses}
use Rattle.constant_modules.proofs.typed_uses.laws.first_uses_use_constants.Goals as goal

pub returns : goal.returns
returns c = first_uses
