use Rattle.literals_in_place.proofs.TypedSteps.Shows.{called, serve, stands_clear}
use Rattle.literals_in_place.proofs.typed_steps.typing_clears_uses.Goals as goal

pub returns-clause-called : goal.returns-clause-called
returns-clause-called z = λ x. called x

pub returns-clause-served : goal.returns-clause-served
returns-clause-served z = λ x. serve x

pub returns-clause-clear : goal.returns-clause-clear
returns-clause-clear z = λ x. stands_clear x
