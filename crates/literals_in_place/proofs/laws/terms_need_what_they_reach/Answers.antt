use Rattle.literals_in_place.proofs.FurtherZeros.{zeros_beside}
use Rattle.literals_in_place.proofs.ReachedTerms.{expr_term-reached, stmts_term-reached}
use Rattle.literals_in_place.proofs.ReachedValues.{type_shared}
use Rattle.literals_in_place.proofs.laws.terms_need_what_they_reach.Goals as goal

pub returns-clause-reached : goal.returns-clause-reached
returns-clause-reached z = λ r left right same zeros before after paths h i. (
  (λ t k e. expr_term-reached (record { reach = r; left = left; right = right; same = same }) before after paths zeros h i e (type_shared (record { reach = r; left = left; right = right; same = same }) t k)),
  (λ b. stmts_term-reached (record { reach = r; left = left; right = right; same = same }) before after paths zeros h i b),
)

pub returns-clause-zeros : goal.returns-clause-zeros
returns-clause-zeros z = λ ps more o t. zeros_beside ps more o t
