use Rattle.printed_constants.proofs.InlinedFiles.InlinedModules.Runs.{constants_write, constants_inline}
use Rattle.printed_constants.proofs.inlined_files.inlined_modules.laws.runs_over_constants_inline.Goals as goal

pub returns-clause-write : goal.returns-clause-write
returns-clause-write c = constants_write c.constants_settle.ensures.settle c.runs_over_constants_keep.ensures.step

pub returns-clause-modules : goal.returns-clause-modules
returns-clause-modules c = constants_inline c.constants_settle.ensures.settle c.runs_over_constants_keep.ensures.step c.read_modules_are_ready.ensures.ready c.runs_over_constants_keep.ensures.runs
