use Rattle.order_runs.proofs.CycleRuns.OrderCycles.Orders.{orders-declare}
use Rattle.order_runs.proofs.cycle_runs.order_cycles.orders_declare_the_same.Goals as goal

pub returns : goal.returns
returns c = λ ps qs h u b a. orders-declare ps qs h u b a
