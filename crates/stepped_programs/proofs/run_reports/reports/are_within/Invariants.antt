use Rattle.std.proofs.Common.{◌≡◌, drop}
use Rattle.std.specs.List.{list_all}
use Rattle.stepped_programs.specs.RunReports.Reports.{is_within}
use Rattle.stepped_programs.proofs.run_reports.reports.are_within.Given as goal

abbrev pub invariant-loop-row : goal.invariant-loop-row
invariant-loop-row l = list_all (is_within l.files) (drop l.row-index l.rows) ≡ list_all (is_within l.files) l.rows
