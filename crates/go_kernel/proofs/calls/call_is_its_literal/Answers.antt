use Rattle.go_kernel.proofs.Literal.{call_is_literal}
use Rattle.go_kernel.proofs.calls.call_is_its_literal.Goals as goal

pub returns : goal.returns
returns c = λ P free A rank ranked scoped f q a. call_is_literal P free A rank ranked scoped f q a
