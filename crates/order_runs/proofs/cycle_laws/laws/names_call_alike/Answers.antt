use Rattle.order_runs.proofs.CycleLaws.NoCallees.{ident-names, selector-names, names-alike}
use Rattle.order_runs.proofs.cycle_laws.laws.names_call_alike.Goals as goal

pub returns-clause-names : goal.returns-clause-names
returns-clause-names c = λ ps marks w at p s n m h. ident-names ps marks w at p s n m h

pub returns-clause-qualified : goal.returns-clause-qualified
returns-clause-qualified c = λ ps marks w at p s z q n m h. selector-names ps marks w at p s z q n m h

pub returns-clause-put : goal.returns-clause-put
returns-clause-put c = λ ps marks w at p x y h k m. names-alike ps marks w at p x y h k m
