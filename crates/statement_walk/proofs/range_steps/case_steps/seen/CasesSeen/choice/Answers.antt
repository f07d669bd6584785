use Rattle.std.proofs.Common.{◌∙◌, ◌&&◌, Some, ap, sym}
use Rattle.statement_walk.proofs.RangeSteps.CaseSteps.CaseLemmas.{cases_end}
use Rattle.statement_walk.proofs.range_steps.case_steps.seen.CasesSeen.choice.Goals as goal

pub returns-then-self : goal.returns-then-self
returns-then-self c =
    let s = c.args.self.now in cases_end s.has_default s.ends ∙ ap (λ h. Some (h && s.ends)) c.if-self.true

pub returns-else-self : goal.returns-else-self
returns-else-self c =
    let s = c.args.self.now in
    cases_end s.has_default s.ends ∙ ap (λ h. Some (h && s.ends)) c.if-self.false ∙ ap Some (sym c.if-self.false)
