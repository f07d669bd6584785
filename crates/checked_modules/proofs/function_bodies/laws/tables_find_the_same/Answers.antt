use Rattle.checked_modules.proofs.FunctionBodies.TableLemmas.{tables_find}
use Rattle.checked_modules.proofs.function_bodies.laws.tables_find_the_same.Goals as goal

pub returns : goal.returns
returns c = tables_find
