use Rattle.control_steps.proofs.LocalBlocks.PlaceLemmas.{name_added}
use Rattle.control_steps.proofs.local_blocks.blocks.add_name.Goals as goal

pub returns : goal.returns
returns c =
    name_added c.args.name.now c.in_ok-copy.copy.items c.args.names.now c.add.new.self c.in_ok-copy.ensures
    c.in_ok-add.ensures.added
