use Rattle.run_by_steps.proofs.NextPrograms.NextMade.{made_are_next, one_made}
use Rattle.run_by_steps.proofs.next_programs.read_files_are_next.Goals as goal

pub returns-clause-made : goal.returns-clause-made
returns-clause-made c = made_are_next

pub returns-clause-one : goal.returns-clause-one
returns-clause-one c = one_made
