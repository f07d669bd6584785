use Rattle.stepped_programs.proofs.RunReports.Entries.{bad_rows_tell}
use Rattle.stepped_programs.proofs.RunReports.StepRows.{step_rows_tell}
use Rattle.stepped_programs.proofs.run_reports.laws.rows_tell.Goals as goal

pub returns-clause-step : goal.returns-clause-step
returns-clause-step c = step_rows_tell

pub returns-clause-bad : goal.returns-clause-bad
returns-clause-bad c = bad_rows_tell
