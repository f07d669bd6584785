use Rattle.stepped_programs.proofs.SearchedSites.KeptPrograms.Kept.{are_open}
use Rattle.stepped_programs.proofs.searched_sites.kept_programs.laws.programs_are_open.Goals as goal

pub returns : goal.returns
returns c = are_open
