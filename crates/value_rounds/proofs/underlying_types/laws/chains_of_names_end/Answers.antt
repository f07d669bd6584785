use Rattle.value_rounds.proofs.UnderlyingTypes.ChainLaws.{ended_chains}
use Rattle.value_rounds.proofs.underlying_types.laws.chains_of_names_end.Goals as goal

pub returns-clause-ended : goal.returns-clause-ended
returns-clause-ended c = ended_chains
