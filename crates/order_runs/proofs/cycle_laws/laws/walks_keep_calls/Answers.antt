use Rattle.order_runs.proofs.CycleLaws.KeptCalls.{expressions-call-alike, bodies-call-alike}
use Rattle.order_runs.proofs.CycleLaws.DeclCalls.{decl-kept}
use Rattle.order_runs.proofs.cycle_laws.laws.walks_keep_calls.Goals as goal

pub returns-clause-expressions : goal.returns-clause-expressions
returns-clause-expressions c = λ ps marks w at m d q around p u x h k. expressions-call-alike ps marks w at m d q around p u x h k

pub returns-clause-bodies : goal.returns-clause-bodies
returns-clause-bodies c = λ ps marks w at m d q around p b h k. bodies-call-alike ps marks w at m d q around p b h k

pub returns-clause-declarations : goal.returns-clause-declarations
returns-clause-declarations c = λ ps marks w at m same d q k pk file x h l. decl-kept ps marks w at m same d q (λ t u. Unit {0}) k pk file x h l
