use Rattle.stepped_programs.proofs.RunReports.KeptPrograms.{kept_rows_tell}
use Rattle.stepped_programs.proofs.RunReports.MayTell.{programs_may_tell}
use Rattle.stepped_programs.proofs.run_reports.laws.kept_rows_tell.Goals as goal

pub returns-clause-may : goal.returns-clause-may
returns-clause-may c = programs_may_tell

pub returns-clause-rows : goal.returns-clause-rows
returns-clause-rows c =
    kept_rows_tell c.files_are_searched_in_order.ensures.files c.kept_uses_are_told_once.ensures c.programs_are_held.ensures c.searches_settle_files.ensures.looks
    c.origins_are_told.ensures c.constant_uses_are_expressions.ensures c.uses_are_placed.ensures
