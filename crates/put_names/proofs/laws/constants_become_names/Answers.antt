use Rattle.put_names.proofs.Constants.{constant_becomes}
use Rattle.put_names.proofs.Settled.{constants_settle}
use Rattle.put_names.proofs.laws.constants_become_names.Goals as goal

pub returns-clause-named : goal.returns-clause-named
returns-clause-named c = λ marks st l after n reads uses. constant_becomes marks st l after n reads uses

pub returns-clause-settle : goal.returns-clause-settle
returns-clause-settle c = λ marks st l after n reads writable undotted scoped used uses led few removes. constants_settle marks st l after n reads writable undotted scoped used led few removes uses
