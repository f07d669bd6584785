use Rattle.method_headers.proofs.MethodLaws.{methods_are_found}
use Rattle.method_headers.proofs.laws.declared_methods_are_found.Goals as goal

pub returns : goal.returns
returns c = methods_are_found
