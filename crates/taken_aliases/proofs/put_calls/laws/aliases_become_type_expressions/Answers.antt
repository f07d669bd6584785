use Rattle.taken_aliases.proofs.PutCalls.Steps.{alias-becomes-expr, called-aliases-settle}
use Rattle.taken_aliases.proofs.put_calls.laws.aliases_become_type_expressions.Goals as goal

pub returns-clause-shape : goal.returns-clause-shape
returns-clause-shape c = λ marks st l after n reads used uses laid are. alias-becomes-expr marks st l after n reads used uses laid are

pub returns-clause-settle : goal.returns-clause-settle
returns-clause-settle c = λ marks st l after n reads links writable undotted scoped used uses laid few removes. called-aliases-settle marks st l after n reads used uses laid links writable undotted scoped few removes
