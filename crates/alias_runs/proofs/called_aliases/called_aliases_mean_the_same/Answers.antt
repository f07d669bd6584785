use Rattle.alias_runs.proofs.QualifiedAliases.FormThere.{expr-form, range-is}
use Rattle.alias_runs.proofs.CalledAliases.PlacedSteps.{swaps-placed, placed-step}
use Rattle.alias_runs.proofs.called_aliases.called_aliases_mean_the_same.Goals as goal

pub returns-clause-form : goal.returns-clause-form
returns-clause-form c = λ same commented rs marks x u v t. (expr-form same commented rs marks x u t.use_ t.part, range-is same commented rs marks x u)

pub returns-clause-swaps : goal.returns-clause-swaps
returns-clause-swaps c = λ same commented rs marks x u v t ms Q a w. swaps-placed same commented rs marks x u v t ms Q a w

pub returns-clause-meaning : goal.returns-clause-meaning
returns-clause-meaning c = λ same commented rs marks x u v t P a right. placed-step same commented rs marks x u v t P a right
