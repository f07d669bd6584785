use Rattle.order_runs.proofs.RunSteps.SpansForgotten.{codes-alike, typed-alike}
use Rattle.order_runs.proofs.RunSteps.SameMeant.{same-code, spans-keep}
use Rattle.order_runs.proofs.run_steps.packages_need_no_spans.Goals as goal

pub returns-clause-typed : goal.returns-clause-typed
returns-clause-typed c = λ ps qs e. typed-alike ps qs e

pub returns-clause-codes : goal.returns-clause-codes
returns-clause-codes c = λ ps qs e. codes-alike ps qs e

pub returns-clause-meaning : goal.returns-clause-meaning
returns-clause-meaning c = λ P P' e m. same-code P P' (spans-keep P P' e)
