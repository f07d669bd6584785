use Rattle.std.proofs.Common.{subst}
use Rattle.operand_modes.specs.OperandAnswers.Located.{GivesAt}
use Rattle.composite_steps.proofs.ElementLemmas.{operand_located, operand_not_located}
use Rattle.composite_steps.proofs.operands.operand_of.Goals as goal

pub returns-in-Ok : goal.returns-in-Ok
returns-in-Ok c = λ e cs o p h. operand_located e cs o p c.in-Ok.x (subst (GivesAt e cs o p) c.in-Ok.is h)

pub returns-in-Err : goal.returns-in-Err
returns-in-Err c =
    λ e cs o p h. operand_not_located e cs o p c.in-Err.refusal (subst (GivesAt e cs o p) c.in-Err.is h)
