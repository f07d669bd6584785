use Rattle.std.proofs.Common.{subst}
use Rattle.operand_modes.specs.OperandAnswers.Located.{GivesAt, IsThereIfOk}
use Rattle.assignment_steps.proofs.TargetLemmas.{target_lifted, target_refused}
use Rattle.assignment_steps.proofs.targets.stored_at.Goals as goal

pub operand_target-requires : goal.operand_target-requires
operand_target-requires c = subst (IsThereIfOk c.args.tables.now.env c.args.tables.now.consts) c.in-Ok.is c.requires

pub returns-in-Ok : goal.returns-in-Ok
returns-in-Ok c =
    λ o p h.
    let k = c.args.tables.now in
    target_lifted k.env k.consts o p c.in-Ok.x (subst (GivesAt k.env k.consts o p) c.in-Ok.is h) c.operand_target.result
    c.operand_target.ensures

pub returns-in-Err : goal.returns-in-Err
returns-in-Err c =
    λ o p h.
    let k = c.args.tables.now in
    target_refused k.env k.consts o p c.in-Err.refusal (subst (GivesAt k.env k.consts o p) c.in-Err.is h)
