use Rattle.stepped_programs.proofs.SearchedSites.KeptPrograms.Kept.{stay_kept}
use Rattle.stepped_programs.proofs.searched_sites.kept_programs.laws.searched_programs_stay.Goals as goal

pub returns : goal.returns
returns c = stay_kept
