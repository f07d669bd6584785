use Rattle.constants_anywhere.proofs.LiteralsKnown.{parts_stand}
use Rattle.constants_anywhere.proofs.UsesAnywhere.{simple_stand}
use Rattle.constants_anywhere.proofs.laws.parts_are_known.Goals as goal

pub returns-clause-simple : goal.returns-clause-simple
returns-clause-simple c = λ same rs x new decl k ps more h. simple_stand same rs x new decl k ps more h

pub returns-clause-typed : goal.returns-clause-typed
returns-clause-typed c = λ same commented rs marks x u v s k more at order well outside. parts_stand same commented rs marks x u v s k more at order well outside
