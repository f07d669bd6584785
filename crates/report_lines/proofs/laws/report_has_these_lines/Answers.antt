use Rattle.report_lines.proofs.ReportLemmas.{report_has}
use Rattle.report_lines.proofs.laws.report_has_these_lines.Goals as goal

pub returns : goal.returns
returns c = report_has
