use Rattle.stepped_programs.proofs.SearchedSites.KeptUses.Alike.{stay_kept}
use Rattle.stepped_programs.proofs.searched_sites.kept_uses.kept_uses_stay.Goals as goal

pub returns : goal.returns
returns c = stay_kept
