use Rattle.constant_modules.proofs.ConstantPrograms.Few.{files_few}
use Rattle.constant_modules.proofs.ConstantPrograms.Stay.{read_programs, first_right, steps_over_names, programs_stay, modules_inlined}
use Rattle.constant_modules.proofs.ConstantPrograms.Worlds.{keep_worlds}
use Rattle.constant_modules.proofs.constant_programs.laws.constant_programs_stay.Goals as goal

pub returns-clause-read : goal.returns-clause-read
returns-clause-read c = read_programs c.constant_programs_are_read.ensures c.paths_stay_apart.ensures.read

pub returns-clause-first : goal.returns-clause-first
returns-clause-first c = first_right c.first_uses_are_of_constants.ensures.uses c.first_uses_are_of_constants.ensures.typed

pub returns-clause-over : goal.returns-clause-over
returns-clause-over c = steps_over_names c.constant_steps_take_names.ensures

pub returns-clause-kept : goal.returns-clause-kept
returns-clause-kept c = programs_stay c.constant_steps_stay.ensures.kept c.paths_stay_apart.ensures.kept c.printed_steps_avoid_few_names.ensures.total

pub returns-clause-worlds : goal.returns-clause-worlds
returns-clause-worlds c = keep_worlds c.constant_steps_take_names.ensures

pub returns-clause-few : goal.returns-clause-few
returns-clause-few c = files_few

pub returns-clause-inlined : goal.returns-clause-inlined
returns-clause-inlined c = modules_inlined c.constant_runs_inline.ensures.inlined
