use Rattle.name_uses.proofs.HeaderUses.Places.{final_places_stand}
use Rattle.name_uses.proofs.header_uses.laws.places_know_final_types.Goals as goal

pub returns : goal.returns
returns c = λ ps e bs s h f same. final_places_stand ps e bs s h f same
