use Rattle.header_order.proofs.RefusedImports.OfFiles.{uses_of_file}
use Rattle.header_order.proofs.refused_imports.laws.uses_are_of_files.Goals as goal

pub returns : goal.returns
returns c = λ w ps p k f h n a s o. uses_of_file w ps p k f h n a s o
