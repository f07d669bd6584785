use Rattle.constant_modules.proofs.NamedAnywhere.PartsKnown.{simple_stand, parts_stand}
use Rattle.constant_modules.proofs.named_anywhere.laws.named_parts_are_known.Goals as goal

pub returns-clause-simple : goal.returns-clause-simple
returns-clause-simple c = λ same rs x new decl k ps more h. simple_stand same rs x new decl k ps more h

pub returns-clause-typed : goal.returns-clause-typed
returns-clause-typed c = λ same commented rs marks x u v s k more at order well. parts_stand same commented rs marks x u v s k more at order well
