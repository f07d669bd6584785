use Rattle.report_order.proofs.ReportFiles.Arranged.{entries_by_file, items_ordered}
use Rattle.report_order.proofs.ReportFiles.Lines.{report_by_file}
use Rattle.report_order.proofs.report_files.laws.reports_are_by_file.Goals as goal

pub returns-clause-entries : goal.returns-clause-entries
returns-clause-entries c = entries_by_file

pub returns-clause-report : goal.returns-clause-report
returns-clause-report c = report_by_file

pub returns-clause-items : goal.returns-clause-items
returns-clause-items c = items_ordered
