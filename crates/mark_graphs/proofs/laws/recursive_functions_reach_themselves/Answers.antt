use Rattle.mark_graphs.proofs.Chains.{recursive_reach}
use Rattle.mark_graphs.proofs.laws.recursive_functions_reach_themselves.Goals as goal

pub returns-clause-read : goal.returns-clause-read
returns-clause-read c = λ ps marks functions links a k m e. recursive_reach ps marks functions links a k m e

pub returns-clause-standing : goal.returns-clause-standing
returns-clause-standing c = λ ps marks functions links a k m e. recursive_reach ps marks functions links a k m e
