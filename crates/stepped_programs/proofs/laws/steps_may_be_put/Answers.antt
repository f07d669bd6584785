use Rattle.stepped_programs.proofs.Asked.{may_be_put}
use Rattle.stepped_programs.proofs.laws.steps_may_be_put.Goals as goal

pub returns : goal.returns
returns c = may_be_put
