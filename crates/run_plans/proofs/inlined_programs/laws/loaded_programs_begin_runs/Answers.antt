use Rattle.run_plans.proofs.InlinedPrograms.Begin.{programs_begin}
use Rattle.run_plans.proofs.inlined_programs.laws.loaded_programs_begin_runs.Goals as goal

pub returns : goal.returns
returns c = programs_begin c.runs_begin.ensures
