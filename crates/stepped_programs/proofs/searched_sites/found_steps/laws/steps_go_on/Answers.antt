use Rattle.stepped_programs.proofs.SearchedSites.FoundSteps.GoOn.{file_goes_on, file_passes_limit, file_is_read, run_is_over}
use Rattle.stepped_programs.proofs.searched_sites.found_steps.laws.steps_go_on.Goals as goal

pub returns-clause-file : goal.returns-clause-file
returns-clause-file c = file_goes_on c.found_uses_are_steps.ensures.step c.found_uses_are_steps.ensures.next c.run_goes_on.ensures.file

pub returns-clause-limit : goal.returns-clause-limit
returns-clause-limit c = file_passes_limit c.found_uses_are_steps.ensures.step c.found_uses_are_steps.ensures.next c.run_goes_on.ensures.limit

pub returns-clause-never : goal.returns-clause-never
returns-clause-never c = file_is_read c.found_uses_are_steps.ensures.step c.found_uses_are_steps.ensures.next c.run_goes_on.ensures.never

pub returns-clause-ended : goal.returns-clause-ended
returns-clause-ended c = run_is_over c.run_ends.ensures
