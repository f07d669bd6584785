use Rattle.control_steps.proofs.LocalBlocks.PlaceLemmas.{block_ended}
use Rattle.control_steps.proofs.local_blocks.blocks.LocalBlock.end.Goals as goal

pub returns : goal.returns
returns c =
    λ s w l. block_ended c.args.scope.now s c.truncate.new.self c.args.self.now.start w l c.truncate.ensures
