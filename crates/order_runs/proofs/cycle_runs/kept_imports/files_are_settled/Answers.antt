use Rattle.order_runs.proofs.CycleRuns.KeptImports.Kept.{is-settled, no-more}
use Rattle.order_runs.proofs.cycle_runs.kept_imports.files_are_settled.Goals as goal

pub returns-clause-settled : goal.returns-clause-settled
returns-clause-settled c = λ marks st l after n p w. is-settled marks st l after n p w

pub returns-clause-no_more : goal.returns-clause-no_more
returns-clause-no_more c = λ marks st l after n s. no-more marks st l after n s
