use Rattle.constant_modules.proofs.ApartKeys.Steps.{steps_put, remove_none}
use Rattle.constant_modules.proofs.apart_keys.laws.steps_put_names.Goals as goal

pub returns-clause-puts : goal.returns-clause-puts
returns-clause-puts c = steps_put c.added_imports_may_be_declared.ensures

pub returns-clause-removes : goal.returns-clause-removes
returns-clause-removes c = remove_none
