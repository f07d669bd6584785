use Rattle.stepped_programs.proofs.SearchedSites.Found.{find_sites, kept_are_told}
use Rattle.stepped_programs.proofs.searched_sites.laws.searches_find_sites.Goals as goal

pub returns-clause-sites : goal.returns-clause-sites
returns-clause-sites c = find_sites c.marked_uses_are_sites.ensures c.uses_are_placed.ensures

pub returns-clause-told : goal.returns-clause-told
returns-clause-told c = kept_are_told
