use Rattle.constant_modules.proofs.KeptUses.InPlace.{added_used, each_used}
use Rattle.constant_modules.proofs.kept_uses.laws.added_imports_are_used.Goals as goal

pub returns-clause-added : goal.returns-clause-added
returns-clause-added c = λ marks st l after n e part reads are_named linked all_named few stand j i there named.
    added_used marks st l after n e part reads are_named linked all_named few stand j i there named

pub returns-clause-each : goal.returns-clause-each
returns-clause-each c = λ marks st l after n e part reads are_named linked typed sound all_named few stand j s there named left.
    each_used marks st l after n e part reads are_named linked all_named few stand typed sound j s named left there
