use Rattle.std.proofs.Common.{refl}
use Rattle.typed_in_place.proofs.specification_examples.laws.types_as_specified.Goals as goal

pub returns-clause-identical : goal.returns-clause-identical
returns-clause-identical c = refl

pub returns-clause-methods : goal.returns-clause-methods
returns-clause-methods c = refl
