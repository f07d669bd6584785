use Rattle.constant_modules.proofs.ConstantRuns.Runs.{runs_over, inlinings_keep, modules_inlined}
use Rattle.constant_modules.proofs.constant_runs.laws.constant_runs_inline.Goals as goal

pub returns-clause-over : goal.returns-clause-over
returns-clause-over c = runs_over c.constant_steps_take_names.ensures c.constant_steps_stay.ensures.kept

pub returns-clause-keep : goal.returns-clause-keep
returns-clause-keep c = inlinings_keep c.constant_programs_are_read.ensures (returns-clause-over c) c.printed_runs_keep.ensures.within c.runs_over_marks_anywhere_keep.ensures.runs

pub returns-clause-inlined : goal.returns-clause-inlined
returns-clause-inlined c = modules_inlined c.constant_programs_are_read.ensures (returns-clause-over c) c.printed_runs_keep.ensures.within c.runs_over_marks_anywhere_inline.ensures.modules
