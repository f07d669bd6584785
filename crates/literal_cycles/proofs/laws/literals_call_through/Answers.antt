use Rattle.literal_cycles.proofs.ThroughLiterals.{literal_calls, literal_through}
use Rattle.literal_cycles.proofs.laws.literals_call_through.Goals as goal

pub returns-clause-calls : goal.returns-clause-calls
returns-clause-calls c = λ commented rs marks x u e q at. literal_calls commented rs marks x u e q at

pub returns-clause-through : goal.returns-clause-through
returns-clause-through c = λ commented rs marks x u e q at. literal_through commented rs marks x u e q at
