use Rattle.stepped_programs.proofs.SearchedSites.TypedSearches.Searchable.{tell_fields}
use Rattle.stepped_programs.proofs.searched_sites.typed_searches.laws.tables_serve_programs.Goals as goal

pub returns : goal.returns
returns c = tell_fields c.typed_files_are_sound.ensures c.right_tables_tell_fields.ensures
