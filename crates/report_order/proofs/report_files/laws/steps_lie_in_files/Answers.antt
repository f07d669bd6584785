use Rattle.report_order.proofs.ReportFiles.Runs.{read_paths_ascend, steps_in_files}
use Rattle.report_order.proofs.report_files.laws.steps_lie_in_files.Goals as goal

pub returns-clause-read : goal.returns-clause-read
returns-clause-read c = read_paths_ascend

pub returns-clause-steps : goal.returns-clause-steps
returns-clause-steps c = steps_in_files
