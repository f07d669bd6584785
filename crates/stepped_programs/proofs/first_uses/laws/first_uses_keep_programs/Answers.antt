use Rattle.stepped_programs.proofs.FirstUses.Kept.{open_in_order, keep_programs}
use Rattle.stepped_programs.proofs.first_uses.laws.first_uses_keep_programs.Goals as goal

pub returns-clause-open : goal.returns-clause-open
returns-clause-open c = open_in_order

pub returns-clause-keep : goal.returns-clause-keep
returns-clause-keep c = keep_programs
