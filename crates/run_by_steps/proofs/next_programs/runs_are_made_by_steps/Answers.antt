use Rattle.run_by_steps.proofs.NextPrograms.Reached.{reached_on, reached_runs}
use Rattle.run_by_steps.proofs.next_programs.runs_are_made_by_steps.Goals as goal

pub returns-clause-on : goal.returns-clause-on
returns-clause-on c = reached_on

pub returns-clause-ends : goal.returns-clause-ends
returns-clause-ends c = reached_runs
