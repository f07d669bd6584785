use Rattle.order_runs.proofs.ImportRuns.ImportingNexts.{importing-next}
use Rattle.order_runs.proofs.import_runs.importing_steps_keep_the_code.Goals as goal

pub returns : goal.returns
returns c = λ marks st l after n h o marked. importing-next marks st l after n h o marked
