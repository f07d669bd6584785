use Rattle.alias_runs.proofs.AliasImportsLaws.StayRight.{stay-right, keeps-meaning}
use Rattle.alias_runs.proofs.alias_imports.imports_stay_right.Goals as goal

pub returns-clause-right : goal.returns-clause-right
returns-clause-right c = λ same commented rs marks x u v t ms Q a w still. stay-right same commented rs marks x u v t ms Q a w still

pub returns-clause-meaning : goal.returns-clause-meaning
returns-clause-meaning c = λ same commented rs marks x u v t P a still. keeps-meaning same commented rs marks x u v t P a still
