use Rattle.constant_steps.proofs.StepLaws.Standing.{expr-stands, stmts-stands}
use Rattle.constant_steps.proofs.step_laws.walks_replace_in_place.Goals as goal

pub returns-clause-expressions : goal.returns-clause-expressions
returns-clause-expressions c = λ d around env p u x h. expr-stands d around env p u x h

pub returns-clause-bodies : goal.returns-clause-bodies
returns-clause-bodies c = λ d around env p x h. stmts-stands d around env p x h
