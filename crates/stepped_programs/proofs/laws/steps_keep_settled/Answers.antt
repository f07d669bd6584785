use Rattle.stepped_programs.proofs.LeftFlags.{leave_flags}
use Rattle.stepped_programs.proofs.SettledFiles.{keep_settled}
use Rattle.stepped_programs.proofs.laws.steps_keep_settled.Goals as goal

pub returns-clause-flags : goal.returns-clause-flags
returns-clause-flags c = leave_flags

pub returns-clause-settled : goal.returns-clause-settled
returns-clause-settled c = keep_settled c.settled_flags_stay.ensures
