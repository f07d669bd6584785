use Rattle.order_runs.proofs.CycleRuns.OrderCycles.StepSettled.{settles, step-keeps, runs-keep}
use Rattle.order_runs.proofs.CycleRuns.OrderCycles.ConstantSteps.{constants-kept, aliases-kept}
use Rattle.order_runs.proofs.cycle_runs.order_cycles.linked_steps_keep_cycles.Goals as goal

pub returns-clause-settled : goal.returns-clause-settled
returns-clause-settled c = λ marks st l after n s. settles marks st l after n s

pub returns-clause-kept : goal.returns-clause-kept
returns-clause-kept c = λ marks st l after n s m. step-keeps marks st l after n s m

pub returns-clause-runs : goal.returns-clause-runs
returns-clause-runs c = λ marks st last log run h m. runs-keep marks st last log run h m

pub returns-clause-constants : goal.returns-clause-constants
returns-clause-constants c = λ marks st l after n k e f off u names m. constants-kept marks st l after n k off e f u names m

pub returns-clause-aliases : goal.returns-clause-aliases
returns-clause-aliases c = λ marks st l after n k t f off s types m. aliases-kept marks st l after n k off t f s types m
