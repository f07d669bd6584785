use Rattle.order_runs.proofs.CycleLaws.DeclRead.{names-read-alike}
use Rattle.order_runs.proofs.CycleLaws.StepsLead.{step-gives-way, step-keeps-marks}
use Rattle.order_runs.proofs.cycle_laws.laws.steps_give_way.Goals as goal

pub returns-clause-reads : goal.returns-clause-reads
returns-clause-reads c = λ marks before after s. names-read-alike marks before after s

pub returns-clause-gives_way : goal.returns-clause-gives_way
returns-clause-gives_way c = λ marks st l after n h r. step-gives-way marks st l after n h r

pub returns-clause-kept : goal.returns-clause-kept
returns-clause-kept c = λ marks st l after n h r off x. step-keeps-marks marks st l after n h r off x
