use Rattle.argument_cycles.proofs.CalleesLed.{callees_led}
use Rattle.argument_cycles.proofs.MethodsLed.{method_led}
use Rattle.argument_cycles.proofs.ServedNames.{served_name}
use Rattle.argument_cycles.proofs.laws.callees_are_led.Goals as goal

pub returns-clause-callees : goal.returns-clause-callees
returns-clause-callees c = λ commented rs marks x u k b h. callees_led commented rs marks x u k b h

pub returns-clause-served : goal.returns-clause-served
returns-clause-served c = λ commented rs marks x u k l h p j s b. (b, served_name commented rs marks x u l h k p j s)

pub returns-clause-methods : goal.returns-clause-methods
returns-clause-methods c = λ commented rs marks x u k p w s z d n xs r h f l. method_led commented rs marks x u k p w s z d n xs r h f l
