use Rattle.std.specs.Prelude.{[]}
use Rattle.go_kernel.proofs.SafeSet.{safe_set}
use Rattle.go_kernel.proofs.Shapes.{plain}
use Rattle.go_kernel.proofs.arguments.safe_set_moves.Goals as goal

pub returns : goal.returns
returns c = λ P free A b os rows n d k q s. safe_set P os [] b b (plain b) free A rows n d k q s
