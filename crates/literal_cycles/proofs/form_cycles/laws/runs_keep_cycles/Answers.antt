use Rattle.run_rules.specs.Inlining.{standing_as_read}
use Rattle.literal_cycles.proofs.FormCycles.FormSteps.{run-keeps}
use Rattle.literal_cycles.proofs.form_cycles.laws.runs_keep_cycles.Goals as goal

pub returns : goal.returns
returns c = λ files ps texts marks last log r run a m. run-keeps marks (standing_as_read ps texts) last log run (c.packages_stay_linked.ensures.read files ps texts r) a m
