use Rattle.alias_runs.proofs.AliasSites.TypeSteps.{form-swaps, type-step-means-the-same}
use Rattle.alias_runs.proofs.alias_sites.plain_type_uses_mean_the_same.Goals as goal

pub returns-clause-swaps : goal.returns-clause-swaps
returns-clause-swaps c = λ same commented rs marks x u v y s k ps more at. form-swaps same commented rs marks x u v y s k ps more at

pub returns-clause-meaning : goal.returns-clause-meaning
returns-clause-meaning c = λ same commented rs marks x u v y s k P at right. type-step-means-the-same same commented rs marks x u v y s k P at right
