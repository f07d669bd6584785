use Rattle.order_runs.proofs.RunSteps.SameMeant.{same-code}
use Rattle.order_runs.proofs.ImportSteps.ImportingSteps.{importing-step, importing-run}
use Rattle.order_runs.proofs.import_steps.importing_steps_mean_the_same.Goals as goal

pub returns-clause-steps : goal.returns-clause-steps
returns-clause-steps c = λ same P P' t. importing-step same P P' t

pub returns-clause-runs : goal.returns-clause-runs
returns-clause-runs c = λ same P P' r. importing-run same P P' r

pub returns-clause-meaning : goal.returns-clause-meaning
returns-clause-meaning c = λ same P P' r. same-code P P' (importing-run same P P' r)
