use Rattle.printed_constants.proofs.TypedParts.StandingUses.ToldSteps.Edited.{may_be_edited}
use Rattle.printed_constants.proofs.typed_parts.standing_uses.told_steps.steps_may_be_edited.Goals as goal

pub returns : goal.returns
returns c = may_be_edited c.slots_take_names.ensures.found c.uses_lie_behind_imports.ensures.behind
