use Rattle.constant_modules.proofs.ApartKeys.Keys.{form_adds}
use Rattle.constant_modules.proofs.ApartKeys.Steps.{keep_apart}
use Rattle.constant_modules.proofs.apart_keys.laws.steps_keep_keys_apart.Goals as goal

pub returns-clause-adds : goal.returns-clause-adds
returns-clause-adds c = form_adds

pub returns-clause-keeps : goal.returns-clause-keeps
returns-clause-keeps c = keep_apart
