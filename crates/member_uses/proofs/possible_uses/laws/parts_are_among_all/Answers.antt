use Rattle.member_uses.proofs.PossibleUses.Following.{parts_follow}
use Rattle.member_uses.proofs.possible_uses.laws.parts_are_among_all.Goals as goal

pub returns-clause-read : goal.returns-clause-read
returns-clause-read c = λ ps k p file d h. parts_follow ps k p file d h

pub returns-clause-standing : goal.returns-clause-standing
returns-clause-standing c = λ ps k p file d h. parts_follow ps k p file d h
