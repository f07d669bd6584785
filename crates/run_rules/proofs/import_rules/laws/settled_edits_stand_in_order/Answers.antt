use Rattle.run_rules.proofs.ImportRules.SettledOrder.{settled_in_order, settled_within, settled_ascend, settled_keeps, settled_bytes_stay}
use Rattle.run_rules.proofs.import_rules.laws.settled_edits_stand_in_order.Goals as goal

pub returns-clause-in_order : goal.returns-clause-in_order
returns-clause-in_order c = settled_in_order

pub returns-clause-within : goal.returns-clause-within
returns-clause-within c = settled_within

pub returns-clause-ascend : goal.returns-clause-ascend
returns-clause-ascend c = settled_ascend

pub returns-clause-keeps : goal.returns-clause-keeps
returns-clause-keeps c = settled_keeps

pub returns-clause-bytes_stay : goal.returns-clause-bytes_stay
returns-clause-bytes_stay c = settled_bytes_stay
