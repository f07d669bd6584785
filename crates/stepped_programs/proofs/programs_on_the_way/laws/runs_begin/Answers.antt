use Rattle.stepped_programs.proofs.ProgramsOnTheWay.Begin as begin
use Rattle.stepped_programs.proofs.programs_on_the_way.laws.runs_begin.Goals as goal

pub returns : goal.returns
returns c = begin.runs_begin c.typed_files_are_searchable.ensures c.tables_serve_programs.ensures c.right_tables_stay.ensures.standing c.constant_programs_stay.ensures.read c.steps_are_counted.ensures.none
