use Rattle.go_kernel.proofs.FormProofs.{deferred_call}
use Rattle.go_kernel.proofs.forms.deferred_call_moves_its_safe_set.Goals as goal

pub returns : goal.returns
returns c = λ P free A f scoped os rows receives q s h. deferred_call P free A f scoped os rows receives q s h
