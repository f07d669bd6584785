use Rattle.printed_constants.proofs.TypedParts.StandingUses.LoneUses.Uses.{uses_alone}
use Rattle.printed_constants.proofs.typed_parts.standing_uses.lone_uses.constant_uses_stand_alone.Goals as goal

pub returns : goal.returns
returns c = uses_alone c.parts_are_among_all.ensures.standing
