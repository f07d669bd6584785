use Rattle.standing_files.proofs.FilesStand.{file-stands, mark-stands}
use Rattle.standing_files.proofs.laws.typed_files_stand.Goals as goal

pub returns-clause-files : goal.returns-clause-files
returns-clause-files c = λ ps ordered well w i. file-stands ps ordered well w i

pub returns-clause-marks : goal.returns-clause-marks
returns-clause-marks c = λ ps ordered well m w e. mark-stands ps ordered well m w e
