use Rattle.stepped_programs.proofs.SteppedValues.Held.{are_held}
use Rattle.stepped_programs.proofs.stepped_values.held_programs.programs_are_held.Goals as goal

pub returns : goal.returns
returns c = are_held c.well_typed_files_are_scoped.ensures.scoped
