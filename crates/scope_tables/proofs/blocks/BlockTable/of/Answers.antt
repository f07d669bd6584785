use Rattle.scope_tables.proofs.Loops.{block_from}
use Rattle.scope_tables.proofs.blocks.BlockTable.of.Goals as goal

pub returns : goal.returns
returns c = block_from c.args.members.now (record { rows = c.claim_members.new.rows }) c.new-rows.result c.new-rows.ensures.outside c.in_ok-claim_members.ensures.outside
