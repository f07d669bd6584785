use Rattle.checked_modules.proofs.FunctionBodies.WorldLemmas.{tables_tell}
use Rattle.checked_modules.proofs.function_bodies.laws.tables_tell_of_functions.Goals as goal

pub returns : goal.returns
returns c = tables_tell
