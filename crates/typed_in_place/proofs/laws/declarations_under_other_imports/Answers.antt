use Rattle.typed_in_place.proofs.ProgramsReplaced.{moved_aliases_stand, moved_types_stand, moved_values_stand}
use Rattle.typed_in_place.proofs.ImportsMoved.{body-moved}
use Rattle.typed_in_place.proofs.laws.declarations_under_other_imports.Goals as goal

pub returns-clause-aliases : goal.returns-clause-aliases
returns-clause-aliases c = λ w is h m. moved_aliases_stand w is h m

pub returns-clause-types : goal.returns-clause-types
returns-clause-types c = λ w is h m. moved_types_stand w is h m

pub returns-clause-values : goal.returns-clause-values
returns-clause-values c = λ w is h m. moved_values_stand w is h m

pub returns-clause-bodies : goal.returns-clause-bodies
returns-clause-bodies c = λ w is h m b. body-moved w is h m b
