use Rattle.printed_constants.proofs.InlinedFiles.InlinedModules.Runs.{marks_write, marks_inline}
use Rattle.printed_constants.proofs.inlined_files.inlined_modules.laws.runs_over_marks_inline.Goals as goal

pub returns-clause-write : goal.returns-clause-write
returns-clause-write c = marks_write c.added_imports_may_be_declared.ensures c.constants_settle.ensures.writes c.runs_over_constants_keep.ensures.step c.marks_stay_named.ensures.stay

pub returns-clause-modules : goal.returns-clause-modules
returns-clause-modules c =
    marks_inline c.added_imports_may_be_declared.ensures c.constants_settle.ensures.writes c.runs_over_constants_keep.ensures.step c.marks_stay_named.ensures.stay c.read_modules_are_ready.ensures.ready c.read_marks_are_named.ensures c.runs_over_marks_keep.ensures.runs
