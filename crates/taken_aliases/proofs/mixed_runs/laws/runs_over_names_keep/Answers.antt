use Rattle.taken_aliases.proofs.MixedRuns.KindsStay.{no-functions-stay}
use Rattle.taken_aliases.proofs.MixedRuns.NoCycles.{no-cycle}
use Rattle.taken_aliases.proofs.MixedRuns.Runs.{runs-keep}
use Rattle.taken_aliases.proofs.mixed_runs.laws.runs_over_names_keep.Goals as goal

pub returns-clause-cycles : goal.returns-clause-cycles
returns-clause-cycles c = λ ps marks none m. no-cycle ps marks none m

pub returns-clause-stay : goal.returns-clause-stay
returns-clause-stay c = λ marks st l after n none. no-functions-stay marks st l after n none

pub returns-clause-runs : goal.returns-clause-runs
returns-clause-runs c = λ files ps texts marks last log r octets typed unspread none run h.
    runs-keep c.added_imports_may_be_declared.ensures c.programs_are_ready.ensures.scoped c.constants_settle.ensures.settle c.steps_stay_ready.ensures c.read_modules_are_ready.ensures.ready c.aliases_are_taken.ensures.runs files ps texts marks last log r octets typed unspread none run h
