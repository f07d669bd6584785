use Rattle.std.proofs.Common.{◌∙◌, subst, sym}
use Rattle.operand_modes.specs.OperandAnswers.Located.{GivesAt}
use Rattle.operand_modes.proofs.OperandAnswers.AccessSteps.BoundLemmas.{bound_refused, none_bound, some_bound}
use Rattle.operand_modes.proofs.operand_answers.access_steps.slices.bound.Goals as goal

pub returns-in-Some : goal.returns-in-Some
returns-in-Some c =
    λ o p h.
    let k = c.args.tables.now in
    some_bound k.env k.consts o p c.in-Ok.x c.in-Some.value (sym c.single_value.ensures ∙ c.in-Some.is)
    (subst (GivesAt k.env k.consts o p) c.in-Ok.is h)

pub returns-in-None : goal.returns-in-None
returns-in-None c =
    λ o p h.
    let k = c.args.tables.now in
    none_bound k.env k.consts o p c.in-Ok.x (sym c.single_value.ensures ∙ c.in-None.is)
    (subst (GivesAt k.env k.consts o p) c.in-Ok.is h)

pub returns-in-Err : goal.returns-in-Err
returns-in-Err c =
    λ o p h.
    let k = c.args.tables.now in
    bound_refused k.env k.consts o p c.in-Err.refusal (subst (GivesAt k.env k.consts o p) c.in-Err.is h)
