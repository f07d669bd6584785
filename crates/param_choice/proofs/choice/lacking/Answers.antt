use Rattle.param_choice.proofs.Striking.{lacks_by_name}
use Rattle.param_choice.proofs.choice.lacking.Goals as goal

pub returns-in-None : goal.returns-in-None
returns-in-None c = lacks_by_name c.args.t.now c.args.kept.now c.lacking_named.result c.in-None.ensures c.lacking_named.ensures
