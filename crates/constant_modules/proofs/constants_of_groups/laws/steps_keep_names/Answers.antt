use Rattle.constant_modules.proofs.ConstantsOfGroups.NamesKept.{files_named, members_named}
use Rattle.constant_modules.proofs.constants_of_groups.laws.steps_keep_names.Goals as goal

pub returns-clause-block : goal.returns-clause-block
returns-clause-block c = λ same rs changes number pk tree p f m n fs. files_named same rs changes number pk tree p f m n fs

pub returns-clause-members : goal.returns-clause-members
returns-clause-members c = λ same rs changes number pk tree m n fs. members_named same rs changes number pk tree m n fs
