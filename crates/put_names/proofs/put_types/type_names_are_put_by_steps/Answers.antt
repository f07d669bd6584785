use Rattle.put_names.proofs.PutTypes.StepsPut.{steps-put, names-settle}
use Rattle.put_names.proofs.put_types.type_names_are_put_by_steps.Goals as goal

pub returns-clause-put : goal.returns-clause-put
returns-clause-put c = λ marks st l after n reads undotted used becomes. steps-put marks st l after n reads undotted used becomes

pub returns-clause-settle : goal.returns-clause-settle
returns-clause-settle c = λ marks st l after n reads undotted used becomes writable led few removes. names-settle marks st l after n reads undotted used becomes writable led few removes
