use Rattle.go_kernel.proofs.FormProofs.{block}
use Rattle.go_kernel.proofs.forms.body_is_block.Goals as goal

pub returns : goal.returns
returns c = λ P free A t q n. block P free A t q n
