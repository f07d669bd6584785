use Rattle.printed_constants.proofs.InlinedFiles.Steps.{clause_stays, step_leaves}
use Rattle.printed_constants.proofs.inlined_files.laws.steps_leave_modules.Goals as goal

pub returns-clause-clauses : goal.returns-clause-clauses
returns-clause-clauses c = λ marks st l after n w. clause_stays marks st l after n w

pub returns-clause-leave : goal.returns-clause-leave
returns-clause-leave c = λ files marks st l after n m w. step_leaves marks st l after n w files m
