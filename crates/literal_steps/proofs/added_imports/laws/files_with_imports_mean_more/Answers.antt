use Rattle.literal_steps.proofs.AddedImports.FilesBetween.{between_added}
use Rattle.literal_steps.proofs.AddedImports.PlacesAfter.{names_after, place_after}
use Rattle.literal_steps.proofs.added_imports.laws.files_with_imports_mean_more.Goals as goal

pub returns-clause-names : goal.returns-clause-names
returns-clause-names g = λ same commented rs marks x u v ms l f qs w z t n. names_after same commented rs marks x u v ms l f qs w z t n

pub returns-clause-places : goal.returns-clause-places
returns-clause-places g = λ same commented rs marks x u v ms l f qs w z t c bs e h. place_after same commented rs marks x u v ms l f qs w z t c bs e h

pub returns-clause-between : goal.returns-clause-between
returns-clause-between g = λ same commented rs marks f declares sound by. between_added same commented rs marks f declares sound by
