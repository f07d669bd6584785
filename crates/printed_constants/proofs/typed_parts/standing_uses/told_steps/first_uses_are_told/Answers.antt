use Rattle.printed_constants.proofs.TypedParts.StandingUses.Once.{told_step}
use Rattle.printed_constants.proofs.typed_parts.standing_uses.told_steps.first_uses_are_told.Goals as goal

pub returns : goal.returns
returns c = λ marks st f first reads home n v e u form use_ red part file typed. told_step marks st f first reads c.steps_swap_uses.ensures home n v e u form use_ red part file typed
