use Rattle.alias_runs.proofs.AliasTexts.RetypedTyping.{expr-replaced, stmts-replaced, header-replaced}
use Rattle.alias_runs.proofs.alias_texts.retyped_trees_are_typed_alike.Goals as goal

pub returns-clause-expressions : goal.returns-clause-expressions
returns-clause-expressions c = λ around a e f r. expr-replaced r

pub returns-clause-bodies : goal.returns-clause-bodies
returns-clause-bodies c = λ around a b d r. stmts-replaced r

pub returns-clause-headers : goal.returns-clause-headers
returns-clause-headers c = λ at inside h k r. header-replaced r
