use Rattle.stepped_programs.proofs.SearchedSites.ToldOrigins.Told.{origins_told}
use Rattle.stepped_programs.proofs.searched_sites.told_origins.laws.origins_are_told.Goals as goal

pub returns : goal.returns
returns c = origins_told c.parts_are_among_all.ensures.standing
