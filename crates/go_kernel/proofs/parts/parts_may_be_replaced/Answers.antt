use Rattle.go_kernel.proofs.Congruence.{shows_same}
use Rattle.go_kernel.proofs.parts.parts_may_be_replaced.Goals as goal

pub returns : goal.returns
returns c = λ P P' free A rank ranks marked funs init init' q main choices n. shows_same P' free A rank P ranks marked (λ f. (funs f).0) (λ f. (funs f).1) init init' q main choices n
