use Rattle.std.proofs.Common.{◌∙◌, ap, is_some, sym}
use Rattle.assignment_steps.proofs.TargetLemmas.{some_type}
use Rattle.assignment_steps.proofs.targets.is_settled.Goals as goal

pub returns-in-Some : goal.returns-in-Some
returns-in-Some c =
    let e = c.args.tables.now.env in
    sym (ap is_some c.in-Some.is) ∙ some_type e c.settled.result ∙ ap is_some c.settled.ensures.is

pub returns-in-None : goal.returns-in-None
returns-in-None c =
    let e = c.args.tables.now.env in
    sym (ap is_some c.in-None.is) ∙ some_type e c.settled.result ∙ ap is_some c.settled.ensures.is
