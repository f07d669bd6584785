use Rattle.put_names.proofs.ReadImports.ReadAgain.{others-stay, kept}
use Rattle.put_names.proofs.ReadImports.NamesKept.{names-kept}
use Rattle.put_names.proofs.read_imports.imports_are_read_again.Goals as goal

pub returns-clause-stay : goal.returns-clause-stay
returns-clause-stay c = λ marks st l after n h e. others-stay marks st l after n h e

pub returns-clause-kept : goal.returns-clause-kept
returns-clause-kept c = λ marks st l after n h e u. kept marks st l after n h e u

pub returns-clause-names : goal.returns-clause-names
returns-clause-names c = λ marks st l after n h e out. names-kept marks st l after n h e out
