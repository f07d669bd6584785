use Rattle.constant_modules.proofs.LookUps.Decls.{looked-up-stands}
use Rattle.constant_modules.proofs.LookUps.Removed.{unused, stays, removes-none}
use Rattle.constant_modules.proofs.look_ups.laws.steps_remove_no_look_ups.Goals as goal

pub returns-clause-unused : goal.returns-clause-unused
returns-clause-unused c = λ marks st l after n reads k s there listed. unused marks st l after n reads k s there listed

pub returns-clause-stay : goal.returns-clause-stay
returns-clause-stay c = λ marks st l after n reads k s there left before. stays marks st l after n reads k s there left before

pub returns-clause-parts : goal.returns-clause-parts
returns-clause-parts c = λ ps k p file d m i. looked-up-stands ps k p file d m i

pub returns-clause-look_ups : goal.returns-clause-look_ups
returns-clause-look_ups c = λ marks st l after n reads beside. removes-none marks st l after n reads beside
