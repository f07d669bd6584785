use Rattle.constant_modules.proofs.CountedUses.After.{between_typed, stay_typed}
use Rattle.constant_modules.proofs.CountedUses.Literals.{literals_there}
use Rattle.constant_modules.proofs.counted_uses.laws.declarations_stay_typed.Goals as goal

pub returns-clause-between : goal.returns-clause-between
returns-clause-between c = λ marks st l after n h typed. between_typed marks st l after n h typed

pub returns-clause-after : goal.returns-clause-after
returns-clause-after c = λ marks st l after n h typed. stay_typed marks st l after n h typed

pub returns-clause-literals : goal.returns-clause-literals
returns-clause-literals c = λ marks st l after n h typed. literals_there marks st l after n h typed
