use Rattle.go_kernel.proofs.Argument.{acts_moves}
use Rattle.go_kernel.proofs.arguments.acting_argument_moves.Goals as goal

pub returns : goal.returns
returns c = λ P free A x a fr b q u w. acts_moves P free A x a fr b q u w
