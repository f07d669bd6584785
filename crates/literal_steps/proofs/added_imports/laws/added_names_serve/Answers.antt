use Rattle.literal_steps.proofs.AddedImports.AroundFound.{around_stand}
use Rattle.literal_steps.proofs.AddedImports.MeantAfter.{names_new, called_after}
use Rattle.literal_steps.proofs.added_imports.laws.added_names_serve.Goals as goal

pub returns-clause-names : goal.returns-clause-names
returns-clause-names g = λ same commented rs marks x u v ms l f. names_new same commented rs marks x u v ms l f

pub returns-clause-served : goal.returns-clause-served
returns-clause-served g = λ same commented rs marks x u v ms l f c d h a. called_after same commented rs marks x u v ms l f c d h a

pub returns-clause-around : goal.returns-clause-around
returns-clause-around g = λ rs marks commented f e n h. around_stand rs marks commented f e n h
