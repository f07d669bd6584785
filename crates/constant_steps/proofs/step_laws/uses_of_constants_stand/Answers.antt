use Rattle.constant_steps.proofs.StepLaws.ConstantLeaves.{constant-use-stands}
use Rattle.constant_steps.proofs.StepLaws.StepsCompose.{names-end, values-end}
use Rattle.constant_steps.proofs.StepLaws.DeclUses.{decl-with-use}
use Rattle.constant_steps.proofs.StepLaws.StepUses.{use-of-constant}
use Rattle.constant_steps.proofs.StepLaws.DeclSwapUses.{decl-swaps}
use Rattle.constant_steps.proofs.StepLaws.KnownConstants.{known-use}
use Rattle.constant_steps.proofs.StepLaws.PartsTyped.{headers-typed}
use Rattle.constant_steps.proofs.step_laws.uses_of_constants_stand.Goals as goal

pub returns-clause-facts : goal.returns-clause-facts
returns-clause-facts c = λ ps hs h x f r w end d around env e e' n m p q a i j k b u v y. constant-use-stands ps hs h x f r w end d around env e e' n m p q a i j k b u v y

pub returns-clause-names : goal.returns-clause-names
returns-clause-names c = λ more ps qs d. names-end more ps qs d

pub returns-clause-ends : goal.returns-clause-ends
returns-clause-ends c = λ more ps qs d. values-end more ps qs d

pub returns-clause-declarations : goal.returns-clause-declarations
returns-clause-declarations c = λ same rs z e number pk tree w home in_main file is d a. decl-with-use same rs z e number pk tree w home in_main file is d a

pub returns-clause-one : goal.returns-clause-one
returns-clause-one c = λ ps h n f w top p x e u. use-of-constant ps h n f w top p x e u

pub returns-clause-code : goal.returns-clause-code
returns-clause-code c = λ same rs z e number pk tree paths w home in_main file is d t a. decl-swaps same rs z e number pk tree paths w home in_main file is d t a

pub returns-clause-headers : goal.returns-clause-headers
returns-clause-headers c = λ ps e. headers-typed ps e

pub returns-clause-known : goal.returns-clause-known
returns-clause-known c = λ ps h d f w top p x e well u. known-use ps h d f w top p x e well u
