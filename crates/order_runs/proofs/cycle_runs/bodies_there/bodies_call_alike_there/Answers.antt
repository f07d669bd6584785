use Rattle.order_runs.proofs.CycleRuns.BodiesThere.Bodies.{bodies-there, literals-there}
use Rattle.order_runs.proofs.cycle_runs.bodies_there.bodies_call_alike_there.Goals as goal

pub returns-clause-bodies : goal.returns-clause-bodies
returns-clause-bodies c = λ ps marks w v at there p q m extra b t h. bodies-there ps marks w v extra p m b h at there q t

pub returns-clause-literals : goal.returns-clause-literals
returns-clause-literals c = λ ps marks w v at there p q m extra b s z y g xs r u t h. literals-there ps marks w v extra p m b h at there q s z y g xs r u t
