use Rattle.repeated_parts.proofs.Walked.{flags_follow}
use Rattle.repeated_parts.proofs.laws.flags_are_those_of_places.Goals as goal

pub returns-clause-read : goal.returns-clause-read
returns-clause-read c = λ ps ts k p file d h told. flags_follow ps ts k p file d h told

pub returns-clause-standing : goal.returns-clause-standing
returns-clause-standing c = λ ps ts k p file d h told. flags_follow ps ts k p file d h told
