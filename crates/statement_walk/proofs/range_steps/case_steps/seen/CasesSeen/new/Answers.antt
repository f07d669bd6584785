use Rattle.statement_walk.proofs.RangeSteps.CaseSteps.CaseLemmas.{cases_start}
use Rattle.statement_walk.proofs.range_steps.case_steps.seen.CasesSeen.new.Goals as goal

pub returns : goal.returns
returns c = λ r. cases_start c.new-constants.result r c.new-constants.ensures
