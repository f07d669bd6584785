use Rattle.argument_cycles.proofs.PlacedCalls.{placed_through}
use Rattle.argument_cycles.proofs.laws.placed_arguments_call_through.Goals as goal

pub returns : goal.returns
returns c = λ commented rs marks x u k e f at. placed_through commented rs marks x u k e f at
