use Rattle.taken_aliases.proofs.PutTexts.Steps.{steps-put, types-settle}
use Rattle.taken_aliases.proofs.put_texts.laws.types_are_put_by_steps.Goals as goal

pub returns-clause-put : goal.returns-clause-put
returns-clause-put c = λ marks st l after n reads undotted used becomes. steps-put marks st l after n reads undotted used becomes

pub returns-clause-settle : goal.returns-clause-settle
returns-clause-settle c = λ marks st l after n reads undotted used becomes writable led few removes. types-settle marks st l after n reads undotted used becomes writable led few removes
