use Rattle.printed_constants.proofs.TypedParts.StandingUses.ImportUses.StepUses.{uses_swapped}
use Rattle.printed_constants.proofs.typed_parts.standing_uses.import_uses.steps_swap_uses.Goals as goal

pub returns : goal.returns
returns c = uses_swapped c.parts_are_among_all.ensures.standing
