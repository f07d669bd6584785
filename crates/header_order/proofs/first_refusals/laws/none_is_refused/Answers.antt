use Rattle.header_order.proofs.FirstRefusals.PartLemmas.{none_is_refused, well_typed_by_parts}
use Rattle.header_order.proofs.first_refusals.laws.none_is_refused.Goals as goal

pub returns-clause-declarations : goal.returns-clause-declarations
returns-clause-declarations c = none_is_refused

pub returns-clause-bodies : goal.returns-clause-bodies
returns-clause-bodies c = well_typed_by_parts
