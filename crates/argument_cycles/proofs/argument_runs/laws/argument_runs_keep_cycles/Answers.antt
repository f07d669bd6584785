use Rattle.argument_cycles.proofs.ArgumentRuns.ModuleRuns.{call_runs_keep}
use Rattle.argument_cycles.proofs.argument_runs.laws.argument_runs_keep_cycles.Goals as goal

pub returns : goal.returns
returns c = λ files ps texts marks last log r run a m. call_runs_keep files ps texts marks last log r (c.packages_stay_linked.ensures.read files ps texts r) run a m
