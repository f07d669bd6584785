use Rattle.go_kernel.proofs.Argument.{steady_moves}
use Rattle.go_kernel.proofs.arguments.steady_argument_moves.Goals as goal

pub returns : goal.returns
returns c = λ P free A x a fr b q h. steady_moves P free A x a fr b q h
