use Rattle.alias_runs.proofs.AliasCycles.FormsStand.{forms-stand}
use Rattle.alias_runs.proofs.AliasCycles.AliasCycles.{alias-gives-way, alias-keeps, run-keeps}
use Rattle.alias_runs.proofs.alias_cycles.alias_steps_keep_cycles.Goals as goal

pub returns-clause-stands : goal.returns-clause-stands
returns-clause-stands c = λ marks st l after n h typed. forms-stand marks st l after n h typed

pub returns-clause-gives_way : goal.returns-clause-gives_way
returns-clause-gives_way c = λ marks st l after n h typed quiet. alias-gives-way marks st l after n h typed quiet

pub returns-clause-kept : goal.returns-clause-kept
returns-clause-kept c = λ marks st l after n h typed quiet m. alias-keeps marks st l after n h typed quiet m

pub returns-clause-runs : goal.returns-clause-runs
returns-clause-runs c = λ marks st last log run h m. run-keeps marks st last log run h m
