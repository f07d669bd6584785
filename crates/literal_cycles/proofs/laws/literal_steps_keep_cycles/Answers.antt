use Rattle.literal_cycles.proofs.CalleesStay.{callees_stay}
use Rattle.literal_cycles.proofs.ThroughLiterals.{puts_in_body, literal_step}
use Rattle.literal_cycles.proofs.laws.literal_steps_keep_cycles.Goals as goal

pub returns-clause-puts : goal.returns-clause-puts
returns-clause-puts c = λ marks st l after n reads k. puts_in_body marks st l after n k reads

pub returns-clause-kept : goal.returns-clause-kept
returns-clause-kept c = λ marks st l after n h reads s b k m. literal_step marks st l after n k h reads s b m

pub returns-clause-callees : goal.returns-clause-callees
returns-clause-callees c = λ ps marks v at m z t e i j p y h. callees_stay ps marks v at m z t e i j p y h
