use Rattle.constants_anywhere.proofs.RunsAnywhere.{run_anywhere}
use Rattle.constants_anywhere.proofs.UsesAnywhere.{uses_anywhere, imports_anywhere, meaning_anywhere}
use Rattle.constants_anywhere.proofs.laws.uses_anywhere_mean_the_same.Goals as goal

pub returns-clause-uses : goal.returns-clause-uses
returns-clause-uses c = λ same commented rs marks x u v s k more at order well outside. uses_anywhere same commented rs marks x u v s k outside more at order well

pub returns-clause-imports : goal.returns-clause-imports
returns-clause-imports c = λ same commented rs marks x u v s k ms Q is at typed outside. imports_anywhere same commented rs marks x u v s k outside ms Q is at typed

pub returns-clause-meaning : goal.returns-clause-meaning
returns-clause-meaning c = λ same commented rs marks x u v s k P is at outside. meaning_anywhere same commented rs marks x u v s k outside P is at

pub returns-clause-runs : goal.returns-clause-runs
returns-clause-runs c = λ same P P' r. run_anywhere same P P' r
