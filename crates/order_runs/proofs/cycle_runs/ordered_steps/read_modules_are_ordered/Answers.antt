use Rattle.order_runs.proofs.CycleRuns.OrderedSteps.Modules.{module-ordered, module-paths}
use Rattle.order_runs.proofs.cycle_runs.ordered_steps.read_modules_are_ordered.Goals as goal

pub returns-clause-ordered : goal.returns-clause-ordered
returns-clause-ordered c = λ files ps texts r. module-ordered files ps texts r c.one_order_at_most.ensures.all

pub returns-clause-paths : goal.returns-clause-paths
returns-clause-paths c = λ files ps texts r. module-paths files ps texts r
