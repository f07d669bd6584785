use Rattle.order_runs.proofs.CycleRuns.ImportCycles.ImportsRead.{identifiers-read}
use Rattle.order_runs.proofs.CycleRuns.ImportCycles.ImportsAdded.{new-names-read, settled-names-read}
use Rattle.order_runs.proofs.CycleRuns.ImportCycles.WorldMoved.{world-moved}
use Rattle.order_runs.proofs.cycle_runs.import_cycles.imports_by_their_names.Goals as goal

pub returns-clause-same : goal.returns-clause-same
returns-clause-same c = λ ps qs h r. identifiers-read ps qs h r

pub returns-clause-added : goal.returns-clause-added
returns-clause-added c = λ marks st l after n new. new-names-read marks st l after n new

pub returns-clause-settled : goal.returns-clause-settled
returns-clause-settled c = λ marks st l after n names keeps. settled-names-read marks st l after n names keeps

pub returns-clause-declared : goal.returns-clause-declared
returns-clause-declared c = λ ps qs h o. world-moved ps qs h o
