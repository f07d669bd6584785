use Rattle.literal_steps.proofs.MethodLiterals.MethodsFound.{found_there, coded_there}
use Rattle.literal_steps.proofs.method_literals.laws.methods_are_found.Goals as goal

pub returns-clause-found : goal.returns-clause-found
returns-clause-found c = λ ps well p g r on d spelled m e. found_there ps well p g r on d spelled m e

pub returns-clause-code : goal.returns-clause-code
returns-clause-code c = λ ms distinct well p g r on d spelled t e. coded_there ms distinct well p g r on d spelled t e
