use Rattle.literals_in_place.proofs.FurtherFacts.{mentions_beside}
use Rattle.literals_in_place.proofs.MentionsReached.{mentions-reached, mentions_stmts-reached}
use Rattle.literals_in_place.proofs.laws.mentions_stay_beside_others.Goals as goal

pub returns-clause-reached : goal.returns-clause-reached
returns-clause-reached z = λ r left right same env i. (
  λ way e. mentions-reached (record { reach = r; left = left; right = right; same = same }) way env i e,
  λ b. mentions_stmts-reached (record { reach = r; left = left; right = right; same = same }) env i b,
)

pub returns-clause-literals : goal.returns-clause-literals
returns-clause-literals z = λ same commented rs marks x u v ms l names d h y way e q around a more o i. mentions_beside same commented rs marks x u v ms l names d h y way e q around a more o i
