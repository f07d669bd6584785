use Rattle.constant_modules.proofs.TypedUses.Members.{steps_name_members}
use Rattle.constant_modules.proofs.typed_uses.laws.steps_use_members.Goals as goal

pub returns : goal.returns
returns c = steps_name_members c.constants_settle.ensures.names
