use Rattle.fresh_names.proofs.Found.{found-needed}
use Rattle.fresh_names.proofs.laws.packages_get_needed_names.Goals as goal

pub returns-clause-read : goal.returns-clause-read
returns-clause-read c = λ ps w p bound q k. found-needed ps w p bound q k

pub returns-clause-standing : goal.returns-clause-standing
returns-clause-standing c = λ ps w p bound q k. found-needed ps w p bound q k
