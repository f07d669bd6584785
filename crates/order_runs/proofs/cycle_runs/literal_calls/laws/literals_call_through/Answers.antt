use Rattle.order_runs.proofs.CycleRuns.LiteralCalls.Through.{literal-through, all-through, literal-step}
use Rattle.order_runs.proofs.cycle_runs.literal_calls.laws.literals_call_through.Goals as goal

pub returns-clause-literals : goal.returns-clause-literals
returns-clause-literals c = λ ps marks v at m q y x l. literal-through ps marks v at m q y x l

pub returns-clause-puts : goal.returns-clause-puts
returns-clause-puts c = λ ps marks v at m d xs h. all-through ps marks v at m d xs h

pub returns-clause-kept : goal.returns-clause-kept
returns-clause-kept c = λ marks st l after n h s e f i stands puts m. literal-step marks st l after n h s e f i stands puts m
