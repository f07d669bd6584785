use Rattle.printed_constants.proofs.TypedParts.MarkedRuns.SettledConstants.Settled.{written_ready, step_keeps, run_keeps}
use Rattle.printed_constants.proofs.typed_parts.marked_runs.settled_constants.constants_keep_cycles.Goals as goal

pub returns-clause-ready : goal.returns-clause-ready
returns-clause-ready c = λ marks st l after n ready writes typed. written_ready marks st l after n ready writes typed

pub returns-clause-step : goal.returns-clause-step
returns-clause-step c = λ marks st l after n ready over puts m. step_keeps marks st l after n c.well_typed_files_are_scoped.ensures.scoped ready over puts m

pub returns-clause-runs : goal.returns-clause-runs
returns-clause-runs c = λ marks st last log ready run over m. run_keeps c.well_typed_files_are_scoped.ensures.scoped marks st last log ready run over m
