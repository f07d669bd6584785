use Rattle.fix_run.proofs.VerdictLemmas.{verdicts_are_alike}
use Rattle.fix_run.proofs.laws.one_verdict_at_most.Goals as goal

pub returns : goal.returns
returns c = let one = c.one_answer_at_most.ensures in verdicts_are_alike one.plans one.refusals one.either
