use Rattle.alias_runs.proofs.QualifiedAliases.FormThere.{type-form, range-is}
use Rattle.alias_runs.proofs.QualifiedAliases.AliasSwapped.{imports-hold, swaps-beside, step-means-the-same}
use Rattle.alias_runs.proofs.qualified_aliases.aliases_in_any_package_mean_the_same.Goals as goal

pub returns-clause-form : goal.returns-clause-form
returns-clause-form c = λ same commented rs marks x u v t. (type-form same commented rs marks x u t.use_ t.part, range-is same commented rs marks x u)

pub returns-clause-imports : goal.returns-clause-imports
returns-clause-imports c = λ same commented rs marks x u v ms Q a w. imports-hold same commented rs marks x u v ms Q a w

pub returns-clause-swaps : goal.returns-clause-swaps
returns-clause-swaps c = λ same commented rs marks x u v t ms Q a i d. swaps-beside same commented rs marks x u v t ms Q a i d

pub returns-clause-meaning : goal.returns-clause-meaning
returns-clause-meaning c = λ same commented rs marks x u v t P a right. step-means-the-same same commented rs marks x u v t P a right
