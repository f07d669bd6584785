use Rattle.stepped_programs.proofs.SteppedValues.Flags.{flags_stay}
use Rattle.stepped_programs.proofs.stepped_values.settled_flags.settled_flags_stay.Goals as goal

pub returns : goal.returns
returns c = flags_stay c.settled_files_stay.ensures.flags c.programs_are_held.ensures c.marked_values_stay.ensures
