use Rattle.printed_constants.proofs.TypedParts.StandingUses.UsePlaces.Behind.{uses_behind}
use Rattle.printed_constants.proofs.typed_parts.standing_uses.use_places.uses_lie_behind_imports.Goals as goal

pub returns : goal.returns
returns c = record { behind = uses_behind }
