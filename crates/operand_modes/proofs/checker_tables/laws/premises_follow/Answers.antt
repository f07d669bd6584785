use Rattle.operand_modes.proofs.CheckerTables.PartLemmas.{parts_follow}
use Rattle.operand_modes.proofs.CheckerTables.MethodLemmas.{methods_have_value_types, selected_has_value_types}
use Rattle.operand_modes.proofs.CheckerTables.ReadyLemmas.{ready_stays}
use Rattle.operand_modes.proofs.CheckerTables.TableLemmas.{value_types_are_there}
use Rattle.operand_modes.proofs.checker_tables.laws.premises_follow.Goals as goal

pub returns : goal.returns
returns c =
    record {
      parts = parts_follow;
      methods = methods_have_value_types;
      selected = selected_has_value_types;
      there = value_types_are_there;
      ready = ready_stays;
    }
