use Rattle.order_runs.proofs.CycleRuns.Runs.{step-look-ups}
use Rattle.constant_modules.proofs.FewNames.Few.{few-taken}
use Rattle.constant_modules.proofs.LookUps.Removed.{removes-none}
use Rattle.constant_modules.proofs.few_names.laws.steps_keep_look_ups.Goals as goal

pub returns : goal.returns
returns c = λ marks st l after n e part reads paths linked named small writes beside.
    step-look-ups marks st l after n linked writes (few-taken marks st l after n e part reads paths named small) (removes-none marks st l after n reads beside)
