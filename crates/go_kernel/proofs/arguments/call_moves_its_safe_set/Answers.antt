use Rattle.go_kernel.proofs.Argument.{call_moves}
use Rattle.go_kernel.proofs.arguments.call_moves_its_safe_set.Goals as goal

pub returns : goal.returns
returns c = λ P free A rank ranked scoped f is_free os rows receives q s. call_moves P free A rank ranked scoped f is_free os rows receives q s
