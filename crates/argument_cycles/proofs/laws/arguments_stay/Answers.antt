use Rattle.argument_cycles.proofs.Stays.{block_stays, literal_stays}
use Rattle.argument_cycles.proofs.laws.arguments_stay.Goals as goal

pub returns-clause-blocks : goal.returns-clause-blocks
returns-clause-blocks c = λ commented rs marks x u kind k a z s h at b e. block_stays commented rs marks x u kind a k z s h at b e

pub returns-clause-literals : goal.returns-clause-literals
returns-clause-literals c = λ commented rs marks x u k a at b e. literal_stays commented rs marks x u k a at b e
