use Rattle.method_headers.proofs.MethodLaws.{headers_by_types, methods_by_types}
use Rattle.method_headers.proofs.laws.methods_by_types.Goals as goal

pub returns-clause-methods : goal.returns-clause-methods
returns-clause-methods c = methods_by_types

pub returns-clause-headers : goal.returns-clause-headers
returns-clause-headers c = headers_by_types
