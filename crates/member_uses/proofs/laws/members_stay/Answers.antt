use Rattle.run_rules.specs.Run.{here_of}
use Rattle.member_uses.proofs.Stays.{members_stay}
use Rattle.member_uses.proofs.laws.members_stay.Goals as goal

pub returns : goal.returns
returns c = λ f d. members_stay here_of f d
