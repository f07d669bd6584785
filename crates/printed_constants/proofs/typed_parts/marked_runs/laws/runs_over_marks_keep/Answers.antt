use Rattle.printed_constants.proofs.TypedParts.MarkedRuns.NoCycles.{no-cycle}
use Rattle.printed_constants.proofs.TypedParts.MarkedRuns.Runs.{runs-keep}
use Rattle.printed_constants.proofs.typed_parts.marked_runs.laws.runs_over_marks_keep.Goals as goal

pub returns-clause-cycles : goal.returns-clause-cycles
returns-clause-cycles c = λ ps marks all m. no-cycle ps marks all m

pub returns-clause-runs : goal.returns-clause-runs
returns-clause-runs c = λ files ps texts only last log r octets typed unspread constants run h.
    runs-keep c.added_imports_may_be_declared.ensures c.constants_settle.ensures.writes c.runs_over_constants_keep.ensures.step c.marks_stay_named.ensures.stay
    c.read_modules_are_ready.ensures.ready c.read_marks_are_named.ensures c.names_are_taken.ensures.runs files ps texts only last log r octets typed unspread constants run h
