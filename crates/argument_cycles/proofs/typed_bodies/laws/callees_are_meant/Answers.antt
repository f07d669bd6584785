use Rattle.argument_cycles.proofs.TypedBodies.BodiesMeant.{bodies_meant}
use Rattle.argument_cycles.proofs.typed_bodies.laws.callees_are_meant.Goals as goal

pub returns : goal.returns
returns c = λ commented rs marks x u k l s. bodies_meant commented rs marks x u k l s
