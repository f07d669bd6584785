use Rattle.call_laws.proofs.CallLemmas.{calls_alike}
use Rattle.call_laws.proofs.laws.calls_see_alike.Goals as goal

pub returns : goal.returns
returns c = calls_alike
