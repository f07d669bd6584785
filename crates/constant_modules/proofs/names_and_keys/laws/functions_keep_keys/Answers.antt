use Rattle.constant_modules.proofs.NamesAndKeys.Functions.{stay_typed, use_the_same, keep_code, at_the_top}
use Rattle.constant_modules.proofs.names_and_keys.laws.functions_keep_keys.Goals as goal

pub returns-clause-typed : goal.returns-clause-typed
returns-clause-typed c = stay_typed

pub returns-clause-uses : goal.returns-clause-uses
returns-clause-uses c = use_the_same

pub returns-clause-code : goal.returns-clause-code
returns-clause-code c = keep_code

pub returns-clause-top : goal.returns-clause-top
returns-clause-top c = at_the_top
