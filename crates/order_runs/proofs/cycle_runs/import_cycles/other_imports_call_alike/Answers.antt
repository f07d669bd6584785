use Rattle.order_runs.proofs.CycleRuns.ImportCycles.DeclMoved.{bodies-moved}
use Rattle.order_runs.proofs.CycleRuns.ImportCycles.NamesReadAlike.{identifiers-read-alike}
use Rattle.order_runs.proofs.cycle_runs.import_cycles.other_imports_call_alike.Goals as goal

pub returns-clause-bodies : goal.returns-clause-bodies
returns-clause-bodies c = λ marks before after w v at s p m b g h. bodies-moved marks before after w v s at p m b g h

pub returns-clause-programs : goal.returns-clause-programs
returns-clause-programs c = λ marks ps qs h d r. identifiers-read-alike marks ps qs h d r
