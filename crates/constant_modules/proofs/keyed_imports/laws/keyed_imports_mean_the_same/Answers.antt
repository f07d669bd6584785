use Rattle.constant_modules.proofs.KeyedImports.Packages.{keyed_declare, keyed_typed, keyed_code, keyed_uses}
use Rattle.constant_modules.proofs.keyed_imports.laws.keyed_imports_mean_the_same.Goals as goal

pub returns-clause-declare : goal.returns-clause-declare
returns-clause-declare c = λ ps qs d m. keyed_declare ps qs d m

pub returns-clause-typed : goal.returns-clause-typed
returns-clause-typed c = λ ps qs d m ok. keyed_typed ps qs d m ok

pub returns-clause-code : goal.returns-clause-code
returns-clause-code c = λ ps qs d m ok. keyed_code ps qs d m ok

pub returns-clause-uses : goal.returns-clause-uses
returns-clause-uses c = λ ps qs d m ok home file n. keyed_uses ps qs d m ok home file n
