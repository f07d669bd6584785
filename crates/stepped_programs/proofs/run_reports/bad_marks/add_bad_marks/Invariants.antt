use Rattle.std.proofs.Common.{drop}
use Rattle.stepped_programs.specs.RunReports.Rows.{AddsRow, IsBadRow}
use Rattle.stepped_programs.proofs.RunReports.Turns.{Leads}
use Rattle.stepped_programs.proofs.run_reports.bad_marks.add_bad_marks.Given as goal

abbrev pub invariant-loop-mark : goal.invariant-loop-mark
invariant-loop-mark l = Leads (AddsRow (IsBadRow l.files)) l.bad l.initial.rows.items (drop l.mark-index l.bad) l.rows.items
