use Rattle.stepped_programs.proofs.SearchedSites.KeptPlaces.Told.{told_once}
use Rattle.stepped_programs.proofs.searched_sites.kept_places.laws.kept_uses_are_told_once.Goals as goal

pub returns : goal.returns
returns c = told_once c.searches_find_sites.ensures.told
