use Rattle.stepped_programs.proofs.SearchedSites.ToldValues.Told.{are_told}
use Rattle.stepped_programs.proofs.searched_sites.told_values.laws.values_are_told.Goals as goal

pub returns : goal.returns
returns c = are_told c.tables_tell_values.ensures
