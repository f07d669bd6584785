use Rattle.told_literals.proofs.FilesTold.{files_told}
use Rattle.told_literals.proofs.laws.right_tables_tell_fields.Goals as goal

pub returns : goal.returns
returns c = λ ps w f t ordered typed there k s has. files_told ps w f t ordered typed there k s has
