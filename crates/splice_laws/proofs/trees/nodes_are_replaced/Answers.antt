use Rattle.splice_laws.proofs.Rises.{tokens_rise}
use Rattle.splice_laws.proofs.trees.nodes_are_replaced.Goals as goal

pub returns-clause-starts_rise : goal.returns-clause-starts_rise
returns-clause-starts_rise c = tokens_rise
