use Rattle.stepped_programs.proofs.RunReports.Made.{row_as}
use Rattle.stepped_programs.proofs.run_reports.bad_marks.bad_row.Goals as goal

pub returns : goal.returns
returns c =
    row_as c.args.files.now _ c.args.bad.now.path c.args.bad.now.mark.at c.in_ok-told.told _ c.in_ok-row.row c.in_ok-row.ensures c.items.ensures c.in_ok-told.ensures
