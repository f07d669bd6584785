use Rattle.printed_constants.proofs.RemovedImports.Removed.{removes_none}
use Rattle.printed_constants.proofs.removed_imports.laws.printed_steps_remove_no_look_ups.Goals as goal

pub returns : goal.returns
returns c = λ marks st l after n reads printed named. removes_none marks st l after n reads printed named
