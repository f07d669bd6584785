use Rattle.run_by_steps.proofs.RunProgress.Counts.{totals_follow, steps_come_next, origins_are_counted}
use Rattle.run_by_steps.proofs.run_progress.progress_follows_steps.Goals as goal

pub returns-clause-totals : goal.returns-clause-totals
returns-clause-totals c = totals_follow

pub returns-clause-next : goal.returns-clause-next
returns-clause-next c = steps_come_next

pub returns-clause-origins : goal.returns-clause-origins
returns-clause-origins c = origins_are_counted
