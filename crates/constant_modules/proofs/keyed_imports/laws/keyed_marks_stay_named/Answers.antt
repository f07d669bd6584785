use Rattle.constant_modules.proofs.KeyedImports.KeptNamed.{keyed_write, keyed_stay}
use Rattle.constant_modules.proofs.keyed_imports.laws.keyed_marks_stay_named.Goals as goal

pub returns-clause-writes : goal.returns-clause-writes
returns-clause-writes c = keyed_write c.constants_settle.ensures.writes

pub returns-clause-stay : goal.returns-clause-stay
returns-clause-stay c = keyed_stay c.constants_settle.ensures.writes
