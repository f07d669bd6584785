use Rattle.stepped_programs.proofs.SearchedSites.SettledFiles.Stay.{kept_files_stay, flags_stay, other_values_stay, other_marks_stay, puts_change_one, found_uses_tell}
use Rattle.stepped_programs.proofs.searched_sites.settled_files.laws.settled_files_stay.Goals as goal

pub returns-clause-kept : goal.returns-clause-kept
returns-clause-kept c = kept_files_stay c.marked_uses_are_sites.ensures c.uses_are_placed.ensures c.kept_uses_stay.ensures

pub returns-clause-flags : goal.returns-clause-flags
returns-clause-flags c = flags_stay c.marked_uses_are_sites.ensures c.uses_are_placed.ensures c.kept_uses_stay.ensures

pub returns-clause-values : goal.returns-clause-values
returns-clause-values c = other_values_stay

pub returns-clause-marked : goal.returns-clause-marked
returns-clause-marked c = other_marks_stay

pub returns-clause-puts : goal.returns-clause-puts
returns-clause-puts c = puts_change_one

pub returns-clause-found : goal.returns-clause-found
returns-clause-found c = found_uses_tell
