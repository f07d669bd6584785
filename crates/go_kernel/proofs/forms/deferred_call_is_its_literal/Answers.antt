use Rattle.go_kernel.proofs.DeferredCall.{deferred_is_literal}
use Rattle.go_kernel.proofs.forms.deferred_call_is_its_literal.Goals as goal

pub returns : goal.returns
returns c = λ P free A f scoped a. deferred_is_literal P free A f scoped a
