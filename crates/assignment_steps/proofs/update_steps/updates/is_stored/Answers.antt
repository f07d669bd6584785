use Rattle.std.proofs.Common.{◌∙◌, subst}
use Rattle.type_table.specs.TypeRelations.Environment.{defined_types}
use Rattle.operand_modes.specs.OperandAnswers.Located.{GivesAt, IsThereIfOk}
use Rattle.assignment_steps.specs.Targets.{GivesTarget, IsTargetIfOk}
use Rattle.assignment_steps.proofs.UpdateSteps.UpdateLemmas.{stored_met, target_not_met, value_not_met}
use Rattle.assignment_steps.proofs.update_steps.updates.is_stored.Goals as goal

pub stores_operand-requires-clause-target : goal.stores_operand-requires-clause-target
stores_operand-requires-clause-target c = subst (IsTargetIfOk c.args.tables.now.env) c.in-Ok.is c.requires.target

pub stores_operand-requires-clause-operand : goal.stores_operand-requires-clause-operand
stores_operand-requires-clause-operand c =
    (subst (IsThereIfOk c.args.tables.now.env c.args.tables.now.consts) c.in-Ok-value.is c.requires.value).good

pub returns-in-Ok-value : goal.returns-in-Ok-value
returns-in-Ok-value c =
    λ t o p h g.
    let k = c.args.tables.now in
    c.stores_operand.ensures
    ∙ stored_met k.env k.consts (defined_types k.env) t o p c.in-Ok.target c.in-Ok-value.value
    (subst (GivesTarget k.env t) c.in-Ok.is h) (subst (GivesAt k.env k.consts o p) c.in-Ok-value.is g)

pub returns-in-Err-value : goal.returns-in-Err-value
returns-in-Err-value c =
    λ t o p h g.
    let k = c.args.tables.now in
    value_not_met k.env k.consts (defined_types k.env) t o p c.in-Err-value.refusal c.unmet.result
    (subst (GivesAt k.env k.consts o p) c.in-Err-value.is g) c.unmet.ensures

pub returns-in-Err : goal.returns-in-Err
returns-in-Err c =
    λ t o p h g.
    let k = c.args.tables.now in
    target_not_met k.env k.consts (defined_types k.env) t o c.in-Err.refusal c.unmet-in-Err.result
    (subst (GivesTarget k.env t) c.in-Err.is h) c.unmet-in-Err.ensures
