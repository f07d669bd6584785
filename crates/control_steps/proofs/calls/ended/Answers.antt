use Rattle.std.proofs.Common.{subst}
use Rattle.operand_modes.specs.OperandAnswers.Located.{GivesAt}
use Rattle.control_steps.proofs.OperandTests.{ended_refused, ended_typed}
use Rattle.control_steps.proofs.calls.ended.Goals as goal

pub returns-in-Ok : goal.returns-in-Ok
returns-in-Ok c =
    λ e cs o p h. ended_typed e e cs cs c.args.ends o p c.in-Ok.field-0 (subst (GivesAt e cs o p) c.in-Ok.is h)

pub returns-in-Err : goal.returns-in-Err
returns-in-Err c =
    λ e cs o p h. ended_refused e e cs cs c.args.ends o p c.in-Err.refusal (subst (GivesAt e cs o p) c.in-Err.is h)
