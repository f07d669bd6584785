use Rattle.order_runs.proofs.CycleRuns.OrderCycles.FreshNames.{step-fresh, listed-few}
use Rattle.order_runs.proofs.CycleRuns.OrderCycles.NamesAdded.{adds-new-names}
use Rattle.order_runs.proofs.CycleRuns.OrderCycles.StepAdded.{puts-the-same}
use Rattle.order_runs.proofs.cycle_runs.order_cycles.steps_add_new_names.Goals as goal

pub returns-clause-fresh : goal.returns-clause-fresh
returns-clause-fresh c = λ marks st l after n few. step-fresh marks st l after n few

pub returns-clause-listed : goal.returns-clause-listed
returns-clause-listed c = λ ps f few. listed-few ps f few

pub returns-clause-added : goal.returns-clause-added
returns-clause-added c = λ marks st l after n few paths. adds-new-names marks st l after n few paths

pub returns-clause-same : goal.returns-clause-same
returns-clause-same c = λ marks st l after n new before added. puts-the-same marks st l after n new before added
