use Rattle.put_names.proofs.Aliases.{alias_becomes}
use Rattle.put_names.proofs.Settled.{aliases_settle}
use Rattle.put_names.proofs.laws.aliases_become_names.Goals as goal

pub returns-clause-named : goal.returns-clause-named
returns-clause-named c = λ marks st l after n reads used uses. alias_becomes marks st l after n reads used uses

pub returns-clause-settle : goal.returns-clause-settle
returns-clause-settle c = λ marks st l after n reads writable undotted scoped used uses led few removes. aliases_settle marks st l after n reads writable undotted scoped used led few removes uses
