use Rattle.go_kernel.proofs.FormProofs.{tail}
use Rattle.go_kernel.proofs.forms.tail_is_block.Goals as goal

pub returns : goal.returns
returns c = λ P free A ps ss rs zeros a body k w d l n t v. tail P free A ps ss rs zeros a body k w d l n t v
