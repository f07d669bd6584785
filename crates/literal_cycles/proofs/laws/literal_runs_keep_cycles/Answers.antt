use Rattle.literal_cycles.proofs.LiteralRuns.{module_keeps}
use Rattle.literal_cycles.proofs.laws.literal_runs_keep_cycles.Goals as goal

pub returns : goal.returns
returns c = λ files ps texts marks last log r run a m. module_keeps files ps texts marks last log r (c.packages_stay_linked.ensures.read files ps texts r) run a m
