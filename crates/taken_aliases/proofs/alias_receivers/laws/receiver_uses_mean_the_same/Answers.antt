use Rattle.taken_aliases.proofs.AliasReceivers.Uses.{swaps-beside, use-means-the-same}
use Rattle.taken_aliases.proofs.alias_receivers.laws.receiver_uses_mean_the_same.Goals as goal

pub returns-clause-swaps : goal.returns-clause-swaps
returns-clause-swaps c = λ same commented rs marks x u v t ms Q a i d. swaps-beside same commented rs marks x u v t ms Q a i d

pub returns-clause-meaning : goal.returns-clause-meaning
returns-clause-meaning c = λ same commented rs marks x u v t P a. use-means-the-same same commented rs marks x u v t P a
