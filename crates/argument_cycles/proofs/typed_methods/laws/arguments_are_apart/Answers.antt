use Rattle.argument_cycles.proofs.TypedMethods.ArgumentsInside.{arguments_apart}
use Rattle.argument_cycles.proofs.TypedMethods.ArgumentsKept.{functions_kept}
use Rattle.argument_cycles.proofs.typed_methods.laws.arguments_are_apart.Goals as goal

pub returns-clause-among : goal.returns-clause-among
returns-clause-among c = λ commented rs marks x u k h. arguments_apart commented rs marks x u k h

pub returns-clause-kept : goal.returns-clause-kept
returns-clause-kept c = λ commented rs marks x u k g h. functions_kept commented rs marks x u k g h
