use Rattle.checked_modules.proofs.RefusedBodies.FirstLemmas.{first_by_files}
use Rattle.checked_modules.proofs.refused_bodies.laws.first_bodies_by_files.Goals as goal

pub returns : goal.returns
returns c = first_by_files
