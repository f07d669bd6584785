use Rattle.stepped_programs.proofs.SearchedSites.OrderedSearches.Looked.{find_sites, settle_files}
use Rattle.stepped_programs.proofs.searched_sites.ordered_searches.laws.searches_settle_files.Goals as goal

pub returns-clause-looks : goal.returns-clause-looks
returns-clause-looks c = find_sites c.looks_tell_files.ensures c.searches_find_sites.ensures.sites

pub returns-clause-settled : goal.returns-clause-settled
returns-clause-settled c = settle_files c.looks_tell_files.ensures c.searches_find_sites.ensures.sites
