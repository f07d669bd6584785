use Rattle.taken_aliases.proofs.TypedBlocks.Blocks.{imports-sound}
use Rattle.taken_aliases.proofs.typed_blocks.laws.imports_may_be_declared.Goals as goal

pub returns : goal.returns
returns c = λ rs w ps there stands well. imports-sound rs ps w there stands well
