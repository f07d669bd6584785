use Rattle.constant_steps.proofs.FirstDeclared.{first_declared}
use Rattle.constant_steps.proofs.NamesOutside.{unshadowed}
use Rattle.constant_steps.proofs.AfterStep.{same_number}
use Rattle.constant_steps.proofs.laws.declarations_are_first.Goals as goal

pub returns-clause-first : goal.returns-clause-first
returns-clause-first c = λ n p k ps f d i file decl plain at q r t. first_declared n p k ps f d i file decl plain at q r t

pub returns-clause-unshadowed : goal.returns-clause-unshadowed
returns-clause-unshadowed c = λ ps home there at n s e f g h same q r. unshadowed ps home there at n s e f g h (same_number home.number there.number same) q r
