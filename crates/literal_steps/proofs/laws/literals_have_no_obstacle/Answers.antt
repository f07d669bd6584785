use Rattle.literal_steps.proofs.NoObstacle.{clear, unshadowed}
use Rattle.literal_steps.proofs.WalksBare.{stmts-bare}
use Rattle.literal_steps.proofs.FirstFunctions.{first_function}
use Rattle.literal_steps.proofs.laws.literals_have_no_obstacle.Goals as goal

pub returns-clause-obstacle : goal.returns-clause-obstacle
returns-clause-obstacle c = λ same commented rs marks x u. ((clear same commented rs marks x u).free, (clear same commented rs marks x u).form_is, unshadowed same commented rs marks x u)

pub returns-clause-spans : goal.returns-clause-spans
returns-clause-spans c = λ d e p b a. stmts-bare d e p b a

pub returns-clause-first : goal.returns-clause-first
returns-clause-first c = λ n spelled p k ps a f d i file g at q nf nd. first_function n spelled p k ps a f d i file g at q nf nd
