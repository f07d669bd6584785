use Rattle.type_table.proofs.ValueTypes.ValueLemmas.{no_rows_are_value_types, value_types_stay}
use Rattle.type_table.proofs.value_types.laws.tables_of_value_types.Goals as goal

pub returns : goal.returns
returns c = record { none = no_rows_are_value_types; stay = value_types_stay }
