use Rattle.stepped_programs.proofs.SteppedValues.Others.{others_stay}
use Rattle.stepped_programs.proofs.stepped_values.laws.marked_values_stay.Goals as goal

pub returns : goal.returns
returns c =
    others_stay c.well_typed_files_are_scoped.ensures.scoped c.constants_name_members.ensures c.keyed_marks_stay_named.ensures.stay c.keyed_marks_stay_named.ensures.writes
