use Rattle.argument_cycles.proofs.TypedBodies.BodiesMeant.{bodies_among}
use Rattle.argument_cycles.proofs.TypedMethods.MethodsFound.{method_apart}
use Rattle.argument_cycles.specs.TypedMethods.Methods.{LedOrMethod}
use Rattle.argument_cycles.proofs.typed_methods.laws.methods_are_apart.Goals as goal

pub returns-clause-methods : goal.returns-clause-methods
returns-clause-methods c = λ commented rs marks x u k p w s z d n xs r h f. method_apart commented rs marks x u k p w s z d n xs r h f

pub returns-clause-bodies : goal.returns-clause-bodies
returns-clause-bodies c = λ commented rs marks x u k l s. bodies_among commented rs marks x u k l (LedOrMethod commented rs marks x u) s
