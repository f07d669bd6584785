use Rattle.literal_tables.proofs.OtherSpans.{standing_tables}
use Rattle.literal_tables.proofs.Stay.{same_types_keep, same_worlds_keep}
use Rattle.literal_tables.proofs.laws.right_tables_stay.Goals as goal

pub returns-clause-types : goal.returns-clause-types
returns-clause-types c = λ w v t s h. same_types_keep w v t s h

pub returns-clause-worlds : goal.returns-clause-worlds
returns-clause-worlds c = λ w v t s h. same_worlds_keep w v t s h

pub returns-clause-standing : goal.returns-clause-standing
returns-clause-standing c = λ ps t has. standing_tables ps t has
