use Rattle.statement_walk.proofs.BasicUses.{constant_basic, used_alike}
use Rattle.statement_walk.proofs.laws.constants_use_alike.Goals as goal

pub returns-clause-constants : goal.returns-clause-constants
returns-clause-constants c = λ env e t k h. constant_basic env e t k h

pub returns-clause-uses : goal.returns-clause-uses
returns-clause-uses c = λ a b e h. used_alike a b e h
