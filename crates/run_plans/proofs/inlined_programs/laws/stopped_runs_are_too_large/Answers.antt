use Rattle.run_plans.proofs.InlinedPrograms.WholeRuns.{too_large}
use Rattle.run_plans.proofs.inlined_programs.laws.stopped_runs_are_too_large.Goals as goal

pub returns : goal.returns
returns c = too_large
