use Rattle.used_names.proofs.UsedFound.{expr-used, exprs-used, stmts-used}
use Rattle.used_names.proofs.laws.walks_find_used_names.Goals as goal

pub returns-clause-expressions : goal.returns-clause-expressions
returns-clause-expressions c = λ env s e g n name. (expr-used n name e env s g).found

pub returns-clause-lists : goal.returns-clause-lists
returns-clause-lists c = λ env s es g n name. (exprs-used n name es env s g).found

pub returns-clause-bodies : goal.returns-clause-bodies
returns-clause-bodies c = λ env s b g n name. (stmts-used n name b env s g).walked.found
