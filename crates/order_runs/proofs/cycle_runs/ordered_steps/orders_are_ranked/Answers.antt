use Rattle.order_runs.proofs.CycleRuns.OrderedSteps.Ranked.{orders-ranked, ranked-ordered}
use Rattle.order_runs.proofs.cycle_runs.ordered_steps.orders_are_ranked.Goals as goal

pub returns-clause-ranked : goal.returns-clause-ranked
returns-clause-ranked c = λ ps all. orders-ranked ps all

pub returns-clause-ordered : goal.returns-clause-ordered
returns-clause-ordered c = λ ps rank ranked. ranked-ordered ps rank ranked
