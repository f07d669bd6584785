use Rattle.constant_modules.proofs.NamedAnywhere.TakenMarks.{marks-write, marks-inline}
use Rattle.constant_modules.proofs.named_anywhere.marked.runs_over_marks_anywhere_inline.Goals as goal

pub returns-clause-write : goal.returns-clause-write
returns-clause-write c = marks-write c.added_imports_may_be_declared.ensures c.constants_settle.ensures.writes c.runs_anywhere_keep.ensures.step c.keyed_marks_stay_named.ensures.stay

pub returns-clause-modules : goal.returns-clause-modules
returns-clause-modules c =
    marks-inline c.added_imports_may_be_declared.ensures c.constants_settle.ensures.writes c.runs_anywhere_keep.ensures.step c.keyed_marks_stay_named.ensures.stay
    c.read_modules_are_ready.ensures.ready c.read_marks_are_named.ensures c.runs_over_marks_anywhere_keep.ensures.runs
