use Rattle.header_order.proofs.FirstImports.BlockNames.{blocks_have_names}
use Rattle.header_order.proofs.first_imports.laws.blocks_have_names.Goals as goal

pub returns : goal.returns
returns c = blocks_have_names
