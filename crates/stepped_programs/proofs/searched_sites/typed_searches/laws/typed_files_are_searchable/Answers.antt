use Rattle.stepped_programs.proofs.SearchedSites.TypedSearches.Searchable.{are_searchable}
use Rattle.stepped_programs.proofs.searched_sites.typed_searches.laws.typed_files_are_searchable.Goals as goal

pub returns : goal.returns
returns c = are_searchable c.typed_files_are_sound.ensures c.constant_programs_stay.ensures.few
