use Rattle.stepped_programs.proofs.SearchedSites.Steps.{by_file, have_steps}
use Rattle.stepped_programs.proofs.searched_sites.laws.files_are_searched_in_order.Goals as goal

pub returns-clause-files : goal.returns-clause-files
returns-clause-files c = by_file

pub returns-clause-steps : goal.returns-clause-steps
returns-clause-steps c = have_steps
