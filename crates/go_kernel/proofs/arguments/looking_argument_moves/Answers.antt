use Rattle.go_kernel.proofs.Argument.{looks_moves}
use Rattle.go_kernel.proofs.arguments.looking_argument_moves.Goals as goal

pub returns : goal.returns
returns c = λ P free A x a fr b q l w. looks_moves P free A x a fr b q l w
