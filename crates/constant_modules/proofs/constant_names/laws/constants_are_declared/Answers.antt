use Rattle.constant_modules.proofs.ConstantNames.Found.{are_declared, are_constants}
use Rattle.constant_modules.proofs.constant_names.laws.constants_are_declared.Goals as goal

pub returns-clause-declared : goal.returns-clause-declared
returns-clause-declared c = are_declared

pub returns-clause-constants : goal.returns-clause-constants
returns-clause-constants c = are_constants
