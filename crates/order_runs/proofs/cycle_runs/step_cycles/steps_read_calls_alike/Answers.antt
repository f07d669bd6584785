use Rattle.order_runs.proofs.CycleLaws.DeclRead.{names-read-alike}
use Rattle.order_runs.proofs.CycleRuns.StepCycles.AlikeStay.{alike-names-stay}
use Rattle.order_runs.proofs.CycleRuns.StepCycles.WorldStays.{world-stays, step-declares-alike, step-reads-alike}
use Rattle.order_runs.proofs.cycle_runs.step_cycles.steps_read_calls_alike.Goals as goal

pub returns-clause-packages : goal.returns-clause-packages
returns-clause-packages c = λ marks ps qs h d. names-read-alike marks ps qs (alike-names-stay h d marks)

pub returns-clause-declared : goal.returns-clause-declared
returns-clause-declared c = λ marks st l after n same s. (world-stays marks st l after n same s, step-declares-alike marks st l after n same s)

pub returns-clause-reads : goal.returns-clause-reads
returns-clause-reads c = λ marks st l after n same s. step-reads-alike marks st l after n same s
