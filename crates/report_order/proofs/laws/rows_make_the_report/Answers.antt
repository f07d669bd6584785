use Rattle.report_order.proofs.Told.{rows_make_report, rows_join}
use Rattle.report_order.proofs.laws.rows_make_the_report.Goals as goal

pub returns-clause-report : goal.returns-clause-report
returns-clause-report c = rows_make_report

pub returns-clause-join : goal.returns-clause-join
returns-clause-join c = rows_join
