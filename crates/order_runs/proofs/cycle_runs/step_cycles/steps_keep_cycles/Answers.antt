use Rattle.order_runs.proofs.CycleRuns.StepCycles.CallsKept.{one-step, runs-keep}
use Rattle.order_runs.proofs.CycleRuns.StepCycles.Kept.{constants-kept, aliases-kept}
use Rattle.order_runs.proofs.CycleRuns.StepCycles.OwnKept.{own-kept, qualified-kept}
use Rattle.order_runs.proofs.cycle_runs.step_cycles.steps_keep_cycles.Goals as goal

pub returns-clause-kept : goal.returns-clause-kept
returns-clause-kept c = λ marks st l after n h m. one-step marks st l after n h m

pub returns-clause-runs : goal.returns-clause-runs
returns-clause-runs c = λ marks st last log run h m. runs-keep marks st last log run h m

pub returns-clause-constants : goal.returns-clause-constants
returns-clause-constants c = λ marks st l after n same e f off u names m. constants-kept marks st l after n same e f off u names m

pub returns-clause-aliases : goal.returns-clause-aliases
returns-clause-aliases c = λ marks st l after n same t f off s types m. aliases-kept marks st l after n same t f off s types m

pub returns-clause-own : goal.returns-clause-own
returns-clause-own c = λ marks st l after n same k o u alone m. own-kept marks st l after n same k o u alone m

pub returns-clause-qualified : goal.returns-clause-qualified
returns-clause-qualified c = λ marks st l after n same s z q k f off o u alone m. qualified-kept marks st l after n same s z q k f off o u alone m
