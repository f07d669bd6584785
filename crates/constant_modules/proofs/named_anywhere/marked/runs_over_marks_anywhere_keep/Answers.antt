use Rattle.constant_modules.proofs.NamedAnywhere.TakenMarks.{takes-there, takes-name, runs-keep}
use Rattle.constant_modules.proofs.named_anywhere.marked.runs_over_marks_anywhere_keep.Goals as goal

pub returns-clause-takes_there : goal.returns-clause-takes_there
returns-clause-takes_there c = λ marks st l after n ready files typed few names h. takes-there c.added_imports_may_be_declared.ensures marks st l after n ready files typed few names h

pub returns-clause-takes : goal.returns-clause-takes
returns-clause-takes c = λ marks st l after n ready files typed few names h. takes-name c.added_imports_may_be_declared.ensures marks st l after n ready files typed few names h

pub returns-clause-runs : goal.returns-clause-runs
returns-clause-runs c =
    runs-keep c.added_imports_may_be_declared.ensures c.constants_settle.ensures.writes c.runs_anywhere_keep.ensures.step c.keyed_marks_stay_named.ensures.stay
    c.read_modules_are_ready.ensures.ready c.read_marks_are_named.ensures c.names_are_taken_anywhere.ensures.runs
