use Rattle.order_runs.proofs.CycleRuns.ImportCycles.NamesReadAlike.{identifiers-read-alike}
use Rattle.order_runs.proofs.CycleRuns.ImportCycles.LeadAlike.{same-beside, recursive-same}
use Rattle.order_runs.proofs.CycleRuns.ImportCycles.ImportStep.{imports-kept}
use Rattle.order_runs.proofs.cycle_runs.import_cycles.other_imports_keep_cycles.Goals as goal

pub returns-clause-kept : goal.returns-clause-kept
returns-clause-kept c = λ marks ps qs h d r m. recursive-same marks ps qs h (identifiers-read-alike marks ps qs (same-beside h) d r) m

pub returns-clause-with_imports : goal.returns-clause-with_imports
returns-clause-with_imports c = λ marks st l after n s m. imports-kept marks st l after n s m
