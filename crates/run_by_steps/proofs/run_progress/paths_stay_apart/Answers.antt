use Rattle.run_by_steps.proofs.RunProgress.Apart.{read_paths_are_apart, steps_keep_paths_apart, runs_keep_paths_apart}
use Rattle.run_by_steps.proofs.run_progress.paths_stay_apart.Goals as goal

pub returns-clause-read : goal.returns-clause-read
returns-clause-read c = read_paths_are_apart

pub returns-clause-kept : goal.returns-clause-kept
returns-clause-kept c = steps_keep_paths_apart

pub returns-clause-runs : goal.returns-clause-runs
returns-clause-runs c = runs_keep_paths_apart
