use Rattle.put_names.proofs.Settled.{names_settle}
use Rattle.put_names.proofs.StepsPut.{steps_put}
use Rattle.put_names.proofs.laws.names_are_put_by_steps.Goals as goal

pub returns-clause-put : goal.returns-clause-put
returns-clause-put c = λ marks st l after n reads undotted scoped used becomes. steps_put marks st l after n reads undotted scoped used becomes

pub returns-clause-settle : goal.returns-clause-settle
returns-clause-settle c = λ marks st l after n reads undotted scoped used becomes writable led few removes. names_settle marks st l after n reads undotted scoped used becomes writable led few removes
