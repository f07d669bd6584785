use Rattle.printed_constants.proofs.TypedParts.StandingUses.Once.{stand_once}
use Rattle.printed_constants.proofs.typed_parts.standing_uses.laws.constant_uses_stand_once.Goals as goal

pub returns : goal.returns
returns c = stand_once
