use Rattle.constant_steps.proofs.PlainForms.{clear}
use Rattle.constant_steps.proofs.PlainImports.{plain_imports, plain_step}
use Rattle.constant_steps.proofs.PlainLinked.{plain_linked}
use Rattle.constant_steps.proofs.PlainRuns.{plain_run}
use Rattle.constant_steps.proofs.PlainSteps.{plain_swaps}
use Rattle.constant_steps.proofs.laws.constant_steps_mean_the_same.Goals as goal

pub returns-clause-form : goal.returns-clause-form
returns-clause-form c = λ same commented rs marks x u. ((clear same commented rs marks x u).form_is, (clear same commented rs marks x u).range_is)

pub returns-clause-uses : goal.returns-clause-uses
returns-clause-uses c = λ same commented rs marks x u v s k ps more stands well. plain_swaps same commented rs marks x u v s k ps more stands well

pub returns-clause-imports : goal.returns-clause-imports
returns-clause-imports c = λ same commented rs marks x u v s k ms Q stands typed. plain_imports same commented rs marks x u v s k ms Q stands typed

pub returns-clause-meaning : goal.returns-clause-meaning
returns-clause-meaning c = λ same commented rs marks x u v s k P stands. plain_step same commented rs marks x u v s k P stands

pub returns-clause-runs : goal.returns-clause-runs
returns-clause-runs c = λ same P P' r. plain_run same P P' r

pub returns-clause-linked : goal.returns-clause-linked
returns-clause-linked c = λ same commented rs marks x u v s k ms h d at none. plain_linked same commented rs marks x u v s k ms h d at none
