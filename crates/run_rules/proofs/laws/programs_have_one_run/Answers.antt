use Rattle.run_rules.proofs.OneRun.{one_next, one_run, one_inlining, one_too_large, not_both}
use Rattle.run_rules.proofs.laws.programs_have_one_run.Goals as goal

pub returns-clause-next : goal.returns-clause-next
returns-clause-next c = one_next

pub returns-clause-run : goal.returns-clause-run
returns-clause-run c = one_run

pub returns-clause-inlining : goal.returns-clause-inlining
returns-clause-inlining c = one_inlining

pub returns-clause-limit : goal.returns-clause-limit
returns-clause-limit c = one_too_large

pub returns-clause-apart : goal.returns-clause-apart
returns-clause-apart c = not_both
