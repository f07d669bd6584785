use Rattle.taken_aliases.proofs.AliasReceivers.Steps.{alias-received}
use Rattle.taken_aliases.proofs.alias_receivers.laws.aliases_name_receivers.Goals as goal

pub returns : goal.returns
returns c = λ ps h a w home is s z old new end m. alias-received ps h a w home is s z old new end m
