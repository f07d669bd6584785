use Rattle.std.specs.Prelude.{false}
use Rattle.literals_in_place.proofs.StepsInBodies.BlankUses.{blank_alike}
use Rattle.literals_in_place.proofs.StepsInBodies.NoBlank.{expr_absent, stmts_absent}
use Rattle.literals_in_place.proofs.steps_in_bodies.typed_parts_use_no_blank.Goals as goal

pub returns-clause-parts : goal.returns-clause-parts
returns-clause-parts z = λ n b a k. (λ e c o h. (expr_absent n b a k e c o h).none, λ c y i ends h. (stmts_absent n b c a k false y i ends h).none)

pub returns-clause-literals : goal.returns-clause-literals
returns-clause-literals z = λ same commented rs marks x u v ms l names d h y e q. blank_alike same commented rs marks x u v ms l names d h y e q
