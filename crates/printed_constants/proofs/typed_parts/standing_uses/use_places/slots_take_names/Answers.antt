use Rattle.run_rules.specs.Steps.{same_here}
use Rattle.run_rules.specs.Run.{is_commented}
use Rattle.printed_constants.proofs.TypedParts.StandingUses.UsePlaces.Walk.{uses_fit, found_fits}
use Rattle.printed_constants.proofs.typed_parts.standing_uses.use_places.slots_take_names.Goals as goal

pub returns-clause-uses : goal.returns-clause-uses
returns-clause-uses c = λ ps marks i x e. uses_fit ps marks i x e

pub returns-clause-found : goal.returns-clause-found
returns-clause-found c = λ marks st f e. found_fits st.packages marks same_here (is_commented st) f e
