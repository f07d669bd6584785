use Rattle.statement_walk.proofs.FunctionLiterals.TypedUses.{all_typed_uses, typed_uses}
use Rattle.statement_walk.proofs.function_literals.laws.literals_are_used.Goals as goal

pub returns-clause-expressions : goal.returns-clause-expressions
returns-clause-expressions c = λ env e h. typed_uses env e h

pub returns-clause-lists : goal.returns-clause-lists
returns-clause-lists c = λ env es h. all_typed_uses env es h
