use Rattle.std.proofs.Common.{refl}
use Rattle.typed_in_place.proofs.specification_examples.laws.constants_as_specified.Goals as goal

pub returns-clause-represented : goal.returns-clause-represented
returns-clause-represented c = refl

pub returns-clause-computed : goal.returns-clause-computed
returns-clause-computed c = refl

pub returns-clause-converted : goal.returns-clause-converted
returns-clause-converted c = refl
