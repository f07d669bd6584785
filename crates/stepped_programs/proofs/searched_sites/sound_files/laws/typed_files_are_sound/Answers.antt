use Rattle.stepped_programs.proofs.SearchedSites.SoundFiles.Sound.{files_sound}
use Rattle.stepped_programs.proofs.searched_sites.sound_files.laws.typed_files_are_sound.Goals as goal

pub returns : goal.returns
returns c = files_sound c.well_typed_files_are_scoped.ensures.scoped
