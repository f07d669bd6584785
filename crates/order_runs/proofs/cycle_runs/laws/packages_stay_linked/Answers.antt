use Rattle.order_runs.proofs.CycleRuns.Runs.{linked-names, module-linked, step-linked, step-look-ups, step-names}
use Rattle.order_runs.proofs.cycle_runs.laws.packages_stay_linked.Goals as goal

pub returns-clause-read : goal.returns-clause-read
returns-clause-read c = λ files ps texts r. module-linked c.read_modules_are_ordered.ensures.ordered files ps texts r

pub returns-clause-stay : goal.returns-clause-stay
returns-clause-stay c = λ marks st l after n h s. step-linked marks st l after n h s

pub returns-clause-named : goal.returns-clause-named
returns-clause-named c = λ ps h. linked-names ps h

pub returns-clause-names : goal.returns-clause-names
returns-clause-names c = λ marks st l after n h s. step-names marks st l after n h s

pub returns-clause-look_ups : goal.returns-clause-look_ups
returns-clause-look_ups c = λ marks st l after n h s few removes. step-look-ups marks st l after n h s few removes
