use Rattle.mark_laws.proofs.MarkOrder.{good_ascend, bad_ascend}
use Rattle.mark_laws.proofs.laws.marks_stand_by_place.Goals as goal

pub returns-clause-good : goal.returns-clause-good
returns-clause-good c = good_ascend

pub returns-clause-bad : goal.returns-clause-bad
returns-clause-bad c = bad_ascend
