use Rattle.standing_files.proofs.UsesLinked.{packages-translated, use-linked}
use Rattle.standing_files.proofs.use_laws.typed_uses_are_linked.Goals as goal

pub returns-clause-linked : goal.returns-clause-linked
returns-clause-linked g = λ x. use-linked x

pub returns-clause-translated : goal.returns-clause-translated
returns-clause-translated g = λ ps marks ms t. packages-translated ps marks ms t
