use Rattle.typed_in_place.proofs.NameRounds.OneName.{declares_where_names_do, whole_is}
use Rattle.typed_in_place.proofs.name_rounds.laws.specs_are_their_names.Goals as goal

pub returns-clause-declared : goal.returns-clause-declared
returns-clause-declared c = λ ds w h. declares_where_names_do ds w h

pub returns-clause-together : goal.returns-clause-together
returns-clause-together c = λ ds w h bs e. whole_is ds w h bs e
