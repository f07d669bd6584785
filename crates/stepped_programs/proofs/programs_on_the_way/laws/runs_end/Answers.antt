use Rattle.stepped_programs.proofs.ProgramsOnTheWay.Begin as begin
use Rattle.stepped_programs.proofs.programs_on_the_way.laws.runs_end.Goals as goal

pub returns : goal.returns
returns c = begin.runs_end c.first_uses_are_steps.ensures.steps c.steps_go_on.ensures.ended
