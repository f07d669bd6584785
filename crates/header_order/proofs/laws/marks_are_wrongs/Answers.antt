use Rattle.header_order.proofs.KindLemmas.{marks_wrong}
use Rattle.header_order.proofs.laws.marks_are_wrongs.Goals as goal

pub returns : goal.returns
returns c = marks_wrong
