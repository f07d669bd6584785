use Rattle.order_runs.proofs.CycleRuns.FoundUses.NoRecursive.{step-off}
use Rattle.order_runs.proofs.cycle_runs.found_uses.steps_use_no_recursive.Goals as goal

pub returns : goal.returns
returns c = λ marks st l after n. step-off marks st l after n
