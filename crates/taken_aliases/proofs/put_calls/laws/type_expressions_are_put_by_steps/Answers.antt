use Rattle.taken_aliases.proofs.PutCalls.Steps.{exprs-put, exprs-settle}
use Rattle.taken_aliases.proofs.put_calls.laws.type_expressions_are_put_by_steps.Goals as goal

pub returns-clause-put : goal.returns-clause-put
returns-clause-put c = λ marks st l after n reads undotted scoped used becomes. exprs-put marks st l after n reads undotted scoped used becomes

pub returns-clause-settle : goal.returns-clause-settle
returns-clause-settle c = λ marks st l after n reads undotted scoped used becomes writable led few removes. exprs-settle marks st l after n reads undotted scoped used becomes writable led few removes
