use Rattle.stepped_programs.proofs.SearchedSites.OrderedSearches.Ordered.{are_searched}
use Rattle.stepped_programs.proofs.SearchedSites.OrderedSearches.FirstFound.{find_steps}
use Rattle.stepped_programs.proofs.searched_sites.ordered_searches.laws.searches_find_steps.Goals as goal

pub returns-clause-files : goal.returns-clause-files
returns-clause-files c = are_searched c.looks_tell_files.ensures c.searches_find_sites.ensures.sites

pub returns-clause-steps : goal.returns-clause-steps
returns-clause-steps c = find_steps c.looks_tell_files.ensures c.searches_find_sites.ensures.sites c.uses_are_placed.ensures
