use Rattle.stepped_programs.proofs.SearchedSites.LookedFiles.Files.{files_told}
use Rattle.stepped_programs.proofs.searched_sites.looked_files.looks_tell_files.Goals as goal

pub returns : goal.returns
returns c = files_told
