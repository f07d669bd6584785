use Rattle.order_runs.proofs.SameCodes.OrdersAlike.{programs-alike, initial-alike, shows-alike}
use Rattle.order_runs.proofs.SameCodes.OrdersTyped.{orders-typed}
use Rattle.order_runs.proofs.same_codes.orders_make_one_program.Goals as goal

pub returns-clause-typed : goal.returns-clause-typed
returns-clause-typed c = λ ps qs r. orders-typed ps qs r

pub returns-clause-programs : goal.returns-clause-programs
returns-clause-programs c = λ ps qs d r. (programs-alike ps qs d r, initial-alike ps qs d r)

pub returns-clause-shows : goal.returns-clause-shows
returns-clause-shows c = λ ps qs d r main choices n. shows-alike ps qs d r main choices n
