use Rattle.std.proofs.Common.{◌≡◌, ◌∙◌, List, true, sym, ap, arith}
use Rattle.std.specs.List.{list_all}
use Rattle.report_order.specs.declared.rows.ReportRow.{ReportRow}
use Rattle.stepped_programs.specs.RunReports.Reports.{is_within}
use Rattle.stepped_programs.proofs.RunReports.Within.{rows_within}
use Rattle.stepped_programs.proofs.run_reports.reports.run_report.Goals as goal

pub report_text-requires-clause-within : goal.report_text-requires-clause-within
report_text-requires-clause-within c =
    let fit : c.are_within-fit.result ≡ true = grind (arith, c.if-not-fit.false) in
    rows_within c.args.files.now c.add_bad_marks.new.rows.items
    (ap (λ (rows : List ReportRow). list_all (is_within c.args.files.now) rows) (sym c.deref-2.ensures.value) ∙ sym c.are_within-fit.ensures ∙ fit)
