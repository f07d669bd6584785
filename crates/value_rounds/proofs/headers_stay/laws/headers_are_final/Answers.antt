use Rattle.value_rounds.proofs.HeadersStay.Stay.{headers_are_alike, headers_are_final, none_before}
use Rattle.value_rounds.proofs.headers_stay.laws.headers_are_final.Goals as goal

pub returns-clause-stay : goal.returns-clause-stay
returns-clause-stay c = headers_are_alike

pub returns-clause-programs : goal.returns-clause-programs
returns-clause-programs c = headers_are_final

pub returns-clause-none : goal.returns-clause-none
returns-clause-none c = none_before
