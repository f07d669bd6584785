use Rattle.go_kernel.proofs.FormProofs.{expression}
use Rattle.go_kernel.proofs.forms.return_is_its_expression.Goals as goal

pub returns : goal.returns
returns c = λ P free A ss zeros e d w n. expression P free A ss zeros e d w n
