use Rattle.order_runs.proofs.CycleLaws.ConstantCycles.NamesHere.{unshadowed-name, qualified-name}
use Rattle.order_runs.proofs.CycleLaws.ConstantCycles.Unobstructed.{unobstructed-constant}
use Rattle.order_runs.proofs.cycle_laws.constant_cycles.laws.names_name_no_function.Goals as goal

pub returns-clause-unshadowed : goal.returns-clause-unshadowed
returns-clause-unshadowed c = λ ps marks home there p at s z n m e k h f. unshadowed-name ps marks home there p n m e k s h f at z

pub returns-clause-qualified : goal.returns-clause-qualified
returns-clause-qualified c = λ ps marks there p at s z q n k e f. qualified-name ps marks there p at s z q n k e f

pub returns-clause-unobstructed : goal.returns-clause-unobstructed
returns-clause-unobstructed c = λ marks st x k f range ns home d s n m w i same e off o. unobstructed-constant marks st x k f range ns home d s n m w i same e off o
