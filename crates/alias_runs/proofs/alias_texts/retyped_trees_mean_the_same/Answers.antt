use Rattle.alias_runs.proofs.AliasTexts.RetypedHeaders.{functions-same, initial-same}
use Rattle.alias_runs.proofs.AliasTexts.RetypedTerms.{expr_term-swap, stmts_term-swap}
use Rattle.alias_runs.proofs.alias_texts.retyped_trees_mean_the_same.Goals as goal

pub returns-clause-terms : goal.returns-clause-terms
returns-clause-terms c = λ around h t e f r. expr_term-swap h t r

pub returns-clause-bodies : goal.returns-clause-bodies
returns-clause-bodies c = λ around h b d r. stmts_term-swap h r

pub returns-clause-functions : goal.returns-clause-functions
returns-clause-functions c = λ paths w h x y r. functions-same paths w h r

pub returns-clause-variables : goal.returns-clause-variables
returns-clause-variables c = λ paths w h x y r. initial-same paths w h r
