use Rattle.argument_cycles.proofs.PlacedLiterals.{literal_comes}
use Rattle.argument_cycles.proofs.laws.placed_literals_come_through.Goals as goal

pub returns : goal.returns
returns c = λ commented rs marks x u k at b e. literal_comes commented rs marks x u k at b e
