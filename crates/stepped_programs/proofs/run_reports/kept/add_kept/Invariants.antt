use Rattle.std.proofs.Common.{drop, []}
use Rattle.stepped_programs.specs.RunReports.Kept.{uses_once}
use Rattle.stepped_programs.specs.RunReports.Rows.{AddsRow, IsKeptRow}
use Rattle.stepped_programs.proofs.RunReports.Turns.{Leads}
use Rattle.stepped_programs.proofs.run_reports.kept.add_kept.Given as goal

abbrev pub invariant-loop-found : goal.invariant-loop-found
invariant-loop-found l =
    Leads (AddsRow (IsKeptRow l.file.packages.now l.file.files.now l.file.path.now l.file.origins.now)) (uses_once [] l.kept) l.initial.rows.items
    (uses_once l.spans (drop l.found-index l.kept)) l.rows.items
