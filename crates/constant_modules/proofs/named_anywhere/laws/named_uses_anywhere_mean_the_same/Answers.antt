use Rattle.constant_modules.proofs.NamedAnywhere.StepsAnywhere.{uses_anywhere, imports_anywhere, meaning_anywhere, run_anywhere}
use Rattle.constant_modules.proofs.named_anywhere.laws.named_uses_anywhere_mean_the_same.Goals as goal

pub returns-clause-uses : goal.returns-clause-uses
returns-clause-uses c = λ same commented rs marks x u v more a order well. uses_anywhere same commented rs marks x u v more a order well

pub returns-clause-imports : goal.returns-clause-imports
returns-clause-imports c = λ same commented rs marks x u v ms Q a is typed stay. imports_anywhere same commented rs marks x u v ms Q is a typed stay

pub returns-clause-meaning : goal.returns-clause-meaning
returns-clause-meaning c = λ same commented rs marks x u v P a is stay. meaning_anywhere same commented rs marks x u v P a is stay

pub returns-clause-runs : goal.returns-clause-runs
returns-clause-runs c = λ same P P' r. run_anywhere same P P' r
