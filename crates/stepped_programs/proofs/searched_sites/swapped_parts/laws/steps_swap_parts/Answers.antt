use Rattle.stepped_programs.proofs.SearchedSites.SwappedParts.Decls.{swap_parts}
use Rattle.stepped_programs.proofs.SearchedSites.SwappedParts.Keeps.{swaps_keep}
use Rattle.stepped_programs.proofs.searched_sites.swapped_parts.laws.steps_swap_parts.Goals as goal

pub returns-clause-swap : goal.returns-clause-swap
returns-clause-swap c = swap_parts

pub returns-clause-keep : goal.returns-clause-keep
returns-clause-keep c = swaps_keep
