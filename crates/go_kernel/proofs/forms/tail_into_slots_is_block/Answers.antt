use Rattle.go_kernel.proofs.FormProofs.{tail_into_slots}
use Rattle.go_kernel.proofs.forms.tail_into_slots_is_block.Goals as goal

pub returns : goal.returns
returns c = λ P free A ps ss rs ts zeros a body k w d l lr lt dt nt np t v. tail_into_slots P free A ps ss rs ts zeros a body k w d l lr lt dt nt np t v
