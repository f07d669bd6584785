use Rattle.stepped_programs.proofs.RunReports.RunReports.{are_of_runs}
use Rattle.stepped_programs.proofs.run_reports.laws.reports_are_of_runs.Goals as goal

pub returns : goal.returns
returns c = are_of_runs c.steps_lie_in_files.ensures.read c.kept_rows_tell.ensures.rows c.rows_tell.ensures.bad
