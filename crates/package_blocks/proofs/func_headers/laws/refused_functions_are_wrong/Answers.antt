use Rattle.package_blocks.proofs.FuncHeaders.MethodsAside.{refused_are_wrong}
use Rattle.package_blocks.proofs.func_headers.laws.refused_functions_are_wrong.Goals as goal

pub returns : goal.returns
returns c = refused_are_wrong
