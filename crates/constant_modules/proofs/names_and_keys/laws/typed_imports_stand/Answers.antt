use Rattle.constant_modules.proofs.NamesAndKeys.UsedImports.{typed_stands, stays_used}
use Rattle.constant_modules.proofs.names_and_keys.laws.typed_imports_stand.Goals as goal

pub returns-clause-stand : goal.returns-clause-stand
returns-clause-stand c = λ ps ordered typed w there sound formed k s g named. typed_stands ps ordered typed w there sound formed k s g named

pub returns-clause-stay : goal.returns-clause-stay
returns-clause-stay c = stays_used
