use Rattle.printed_constants.proofs.TypedParts.StandingUses.Once.{steps_told}
use Rattle.printed_constants.proofs.typed_parts.standing_uses.laws.constant_steps_are_told.Goals as goal

pub returns : goal.returns
returns c = steps_told c.steps_swap_uses.ensures
