use Rattle.order_runs.proofs.CycleRuns.OrderedSteps.Steps.{steps-ordered, steps-own}
use Rattle.order_runs.proofs.cycle_runs.ordered_steps.steps_keep_orders.Goals as goal

pub returns-clause-ordered : goal.returns-clause-ordered
returns-clause-ordered c = λ marks st l after n own all adds fewer. steps-ordered marks st l after n own all adds fewer

pub returns-clause-paths : goal.returns-clause-paths
returns-clause-paths c = λ marks st l after n own. steps-own marks st l after n own
