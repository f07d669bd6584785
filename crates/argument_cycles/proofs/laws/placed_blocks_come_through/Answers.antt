use Rattle.argument_cycles.proofs.PlacedBraces.{block_comes}
use Rattle.argument_cycles.proofs.laws.placed_blocks_come_through.Goals as goal

pub returns : goal.returns
returns c = λ commented rs marks x u kind k z s h at b e. block_comes commented rs marks x u kind k z s h at b e
