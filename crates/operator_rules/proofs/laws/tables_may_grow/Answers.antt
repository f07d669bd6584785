use Rattle.operator_rules.proofs.KeptLemmas.{values_stay, values_mean_the_same, grows_on, basic_types_stay}
use Rattle.operator_rules.proofs.laws.tables_may_grow.Goals as goal

pub returns : goal.returns
returns c = record { values = values_stay; meaning = values_mean_the_same; on = grows_on; basics = basic_types_stay }
