use Rattle.printed_constants.proofs.InlinedFiles.InlinedModules.Runs.{kept_inlined}
use Rattle.constant_modules.proofs.NamedAnywhere.TakenKept.{simple-takes, step-ready, run-over-constants, constants-inline}
use Rattle.constant_modules.proofs.named_anywhere.marked.runs_anywhere_keep.Goals as goal

pub returns-clause-simple : goal.returns-clause-simple
returns-clause-simple c = λ marks st l after n h. simple-takes marks st l after n h

pub returns-clause-step : goal.returns-clause-step
returns-clause-step c = λ marks st l after n ready typed writes takes. step-ready c.constants_keep_cycles.ensures.ready marks st l after n (ready, typed) writes takes

pub returns-clause-runs : goal.returns-clause-runs
returns-clause-runs c = run-over-constants c.constants_settle.ensures.settle c.constants_keep_cycles.ensures.ready c.constants_keep_cycles.ensures.step c.read_modules_are_ready.ensures.ready

pub returns-clause-modules : goal.returns-clause-modules
returns-clause-modules c = constants-inline c.constants_settle.ensures.settle c.constants_keep_cycles.ensures.ready kept_inlined c.read_modules_are_ready.ensures.ready (returns-clause-runs c)
