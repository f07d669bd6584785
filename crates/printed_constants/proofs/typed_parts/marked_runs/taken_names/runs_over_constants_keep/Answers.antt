use Rattle.printed_constants.proofs.TypedParts.MarkedRuns.TakenNames.Kept.{step-ready, run-over-constants}
use Rattle.printed_constants.proofs.typed_parts.marked_runs.taken_names.runs_over_constants_keep.Goals as goal

pub returns-clause-step : goal.returns-clause-step
returns-clause-step c = λ marks st l after n ready typed writes takes. step-ready c.constants_keep_cycles.ensures.ready marks st l after n (ready, typed) writes takes

pub returns-clause-runs : goal.returns-clause-runs
returns-clause-runs c = λ files ps texts marks last log m octets typed unspread run h.
    run-over-constants c.constants_settle.ensures.settle c.constants_keep_cycles.ensures.ready c.constants_keep_cycles.ensures.step c.read_modules_are_ready.ensures.ready files ps texts marks last log m octets typed unspread run h
