use Rattle.constant_steps.proofs.PlaceMeanings.PlacesMean.{files_named, read_files_named}
use Rattle.constant_steps.proofs.place_meanings.laws.files_have_their_names.Goals as goal

pub returns-clause-read : goal.returns-clause-read
returns-clause-read c = λ ps w. read_files_named ps w

pub returns-clause-standing : goal.returns-clause-standing
returns-clause-standing c = λ ps w. files_named ps w
