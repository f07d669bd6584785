use Rattle.literal_cycles.proofs.BodyForms.StepsPut.{puts_in_body, body_step}
use Rattle.literal_cycles.proofs.BodyForms.StepsBound.{puts_block, block_step}
use Rattle.literal_cycles.proofs.BodyForms.StepsExpressions.{puts_expression, expression_step}
use Rattle.literal_cycles.proofs.BodyForms.CalleesAround.{callees_around}
use Rattle.literal_cycles.proofs.body_forms.laws.steps_to_bodies_keep_cycles.Goals as goal

pub returns-clause-puts : goal.returns-clause-puts
returns-clause-puts c = λ marks st l after n reads k. puts_in_body marks st l after n k reads

pub returns-clause-kept : goal.returns-clause-kept
returns-clause-kept c = λ marks st l after n h reads s b k m. body_step marks st l after n k h reads s b m

pub returns-clause-bound : goal.returns-clause-bound
returns-clause-bound c = λ marks st l after n reads k. puts_block marks st l after n k reads

pub returns-clause-bound_kept : goal.returns-clause-bound_kept
returns-clause-bound_kept c = λ marks st l after n h reads s b k m. block_step marks st l after n k h reads s b m

pub returns-clause-expressions : goal.returns-clause-expressions
returns-clause-expressions c = λ marks st l after n reads k. puts_expression marks st l after n k reads

pub returns-clause-expressions_kept : goal.returns-clause-expressions_kept
returns-clause-expressions_kept c = λ marks st l after n h reads s b k m. expression_step marks st l after n k h reads s b m

pub returns-clause-callees : goal.returns-clause-callees
returns-clause-callees c = λ ps marks v at m z f i p y h. callees_around ps marks v at m z f i p y h
