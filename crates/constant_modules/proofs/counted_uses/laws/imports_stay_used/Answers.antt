use Rattle.constant_modules.proofs.CountedUses.After.{stay_used, take_names}
use Rattle.constant_modules.proofs.counted_uses.laws.imports_stay_used.Goals as goal

pub returns-clause-used : goal.returns-clause-used
returns-clause-used c = stay_used c.imports_read_again_are_used.ensures.read_again c.settled_imports_may_be_declared.ensures c.used_imports_are_counted.ensures.used c.used_imports_are_counted.ensures.read

pub returns-clause-takes : goal.returns-clause-takes
returns-clause-takes c =
    take_names c.imports_read_again_are_used.ensures.read_again c.settled_imports_may_be_declared.ensures c.used_imports_are_counted.ensures.used c.used_imports_are_counted.ensures.read
    c.members_are_linked.ensures.stand
