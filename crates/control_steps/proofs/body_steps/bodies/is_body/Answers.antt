use Rattle.std.proofs.Common.{subst}
use Rattle.go_tree.specs.View.{stmts_of}
use Rattle.operator_rules.specs.AccessRules.Functions.{types_at}
use Rattle.control_steps.specs.Ends.{EndsAs}
use Rattle.control_steps.proofs.BodySteps.BodyLemmas.{body_met, body_not_met}
use Rattle.control_steps.proofs.body_steps.bodies.is_body.Goals as goal

pub returns-in-Ok : goal.returns-in-Ok
returns-in-Ok c =
    λ e f r t h.
    body_met f (stmts_of c.args.stmts.now) (types_at e c.args.body.now.results.items) r c.in-Ok.ends c.ends_well.result t
    (subst (EndsAs r) c.in-Ok.is h) (c.ends_well.ensures e)

pub returns-in-Err : goal.returns-in-Err
returns-in-Err c =
    λ e f r t h.
    body_not_met f (stmts_of c.args.stmts.now) r c.in-Err.refusal c.unmet.result (subst (EndsAs r) c.in-Err.is h)
    c.unmet.ensures
