use Rattle.operator_rules.proofs.GrowthLemmas.{has_parts_stays, no_rows_have_parts}
use Rattle.operator_rules.proofs.laws.parts_are_types_of_values.Goals as goal

pub returns : goal.returns
returns c = record { none = no_rows_have_parts; stay = has_parts_stays }
