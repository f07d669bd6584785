use Rattle.order_runs.proofs.CycleRuns.Runs.{module-linked, one-step, one-constant, one-alias, one-call, run-keeps}
use Rattle.run_rules.specs.Inlining.{standing_as_read}
use Rattle.order_runs.proofs.cycle_runs.laws.runs_keep_cycles.Goals as goal

pub returns-clause-kept : goal.returns-clause-kept
returns-clause-kept c = λ marks st l after n h s p m. one-step marks st l after n h s p m

pub returns-clause-runs : goal.returns-clause-runs
returns-clause-runs c = λ files ps texts marks last log r run a m. run-keeps marks (standing_as_read ps texts) last log run (module-linked c.read_modules_are_ordered.ensures.ordered files ps texts r) a m

pub returns-clause-constants : goal.returns-clause-constants
returns-clause-constants c = λ marks st l after n h s e f off u names m. one-constant marks st l after n h s e f off u names m

pub returns-clause-aliases : goal.returns-clause-aliases
returns-clause-aliases c = λ marks st l after n h s t f off stands types m. one-alias marks st l after n h s t f off stands types m

pub returns-clause-calls : goal.returns-clause-calls
returns-clause-calls c = λ marks st l after n h s e f is stands calls m. one-call marks st l after n h s e f is stands calls m
