use Rattle.order_runs.proofs.CycleRuns.StepCycles.CallsKept.{rerouted-cycles, step-calls}
use Rattle.order_runs.specs.CycleRuns.StepCycles.Calls.{Uses}
use Rattle.order_runs.proofs.cycle_runs.step_cycles.calls_give_way.Goals as goal

pub returns-clause-edges : goal.returns-clause-edges
returns-clause-edges c = λ uses f g e off m. rerouted-cycles (Uses uses) f g e off m

pub returns-clause-calls : goal.returns-clause-calls
returns-clause-calls c = λ marks st l after n e parts h. step-calls marks st l after n e parts h
