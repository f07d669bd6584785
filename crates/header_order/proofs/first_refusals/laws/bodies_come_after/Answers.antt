use Rattle.header_order.proofs.FirstRefusals.PartLemmas.{bodies_come_after}
use Rattle.header_order.proofs.first_refusals.laws.bodies_come_after.Goals as goal

pub returns : goal.returns
returns c = bodies_come_after
