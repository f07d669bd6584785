use Rattle.constant_steps.proofs.WrittenLiteral.CallWritten.{call_means_it, deferred_means_it}
use Rattle.constant_steps.proofs.written_literal.laws.clear_calls_mean_their_literals.Goals as goal

pub returns-clause-operand : goal.returns-clause-operand
returns-clause-operand c = λ ps home there around h names new all outside beyond P e f ts s z g b k. call_means_it ps home there around h names new all outside beyond P e f ts s z g b k

pub returns-clause-deferred : goal.returns-clause-deferred
returns-clause-deferred c = λ ps home there around h names new all outside beyond P e f ts s z g b k. deferred_means_it ps home there around h names new all outside beyond P e f ts s z g b k
