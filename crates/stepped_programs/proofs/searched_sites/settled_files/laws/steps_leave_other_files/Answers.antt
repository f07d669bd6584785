use Rattle.stepped_programs.proofs.SearchedSites.SettledFiles.Stay.{blocks_stay, tables_stay, names_stay}
use Rattle.stepped_programs.proofs.searched_sites.settled_files.laws.steps_leave_other_files.Goals as goal

pub returns-clause-blocks : goal.returns-clause-blocks
returns-clause-blocks c = blocks_stay

pub returns-clause-tables : goal.returns-clause-tables
returns-clause-tables c = tables_stay

pub returns-clause-names : goal.returns-clause-names
returns-clause-names c = names_stay
