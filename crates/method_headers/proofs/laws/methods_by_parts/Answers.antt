use Rattle.method_headers.proofs.MethodParts.{methods_by_parts}
use Rattle.method_headers.proofs.laws.methods_by_parts.Goals as goal

pub returns : goal.returns
returns c = methods_by_parts
