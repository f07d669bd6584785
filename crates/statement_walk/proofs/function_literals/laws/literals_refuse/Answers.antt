use Rattle.statement_walk.proofs.FunctionLiterals.RefusedLiterals.{refused_list, refused_literal}
use Rattle.statement_walk.proofs.function_literals.laws.literals_refuse.Goals as goal

pub returns-clause-expressions : goal.returns-clause-expressions
returns-clause-expressions c = λ env e h. refused_literal env e h

pub returns-clause-lists : goal.returns-clause-lists
returns-clause-lists c = λ env es h. refused_list env es h
