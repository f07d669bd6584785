use Rattle.constant_modules.proofs.ConstantsOfGroups.ClearerUses.{known_clearer}
use Rattle.constant_modules.proofs.constants_of_groups.laws.known_uses_stay.Goals as goal

pub returns : goal.returns
returns c = λ w v below home imports p x e k. known_clearer w v below home imports p x e k
