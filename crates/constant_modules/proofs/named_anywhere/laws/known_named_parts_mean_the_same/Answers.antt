use Rattle.constant_modules.proofs.NamedAnywhere.FormsNamed.{NewNamed, new_named}
use Rattle.constant_modules.proofs.NamedAnywhere.NamedImports.{named_imports, named_step}
use Rattle.constant_modules.proofs.NamedAnywhere.NamedLinked.{named_linked}
use Rattle.constant_modules.proofs.NamedAnywhere.Swaps.{typed_swaps}
use Rattle.constant_modules.proofs.named_anywhere.laws.known_named_parts_mean_the_same.Goals as goal

pub returns-clause-form : goal.returns-clause-form
returns-clause-form c = λ same commented rs marks x u. let n : NewNamed same commented rs marks x u = new_named same commented rs marks x u in (n.names, n.same_name, n.range_is)

pub returns-clause-uses : goal.returns-clause-uses
returns-clause-uses c = λ same commented rs marks x u v ps more a well t. typed_swaps same commented rs marks x u v ps more a well t

pub returns-clause-imports : goal.returns-clause-imports
returns-clause-imports c = λ same commented rs marks x u v ms Q a typed t stay. named_imports same commented rs marks x u v ms Q a typed t stay

pub returns-clause-linked : goal.returns-clause-linked
returns-clause-linked c = λ same commented rs marks x u v ms a h d. named_linked same commented rs marks x u v ms a h d

pub returns-clause-meaning : goal.returns-clause-meaning
returns-clause-meaning c = λ same commented rs marks x u v P a parts stay. named_step same commented rs marks x u v P a parts stay
