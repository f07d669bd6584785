use Rattle.taken_aliases.proofs.AliasReceivers.Steps.{receiver-step-means-the-same}
use Rattle.taken_aliases.proofs.alias_receivers.laws.receiver_steps_mean_the_same.Goals as goal

pub returns : goal.returns
returns c = λ same rs z form number pk tree k m n P swaps. receiver-step-means-the-same same rs z form number pk tree k m n P swaps
