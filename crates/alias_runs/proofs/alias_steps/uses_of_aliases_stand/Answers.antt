use Rattle.alias_runs.proofs.AliasSteps.AliasNamed.{alias-resolved, alias-use, alias-called}
use Rattle.alias_runs.proofs.alias_steps.uses_of_aliases_stand.Goals as goal

pub returns-clause-resolved : goal.returns-clause-resolved
returns-clause-resolved c = λ ps h a top t u m. alias-resolved ps h a top t u m

pub returns-clause-types : goal.returns-clause-types
returns-clause-types c = λ ps h a top w p s q n u e m f g. alias-use ps h a top w p s q n u e m f g

pub returns-clause-expressions : goal.returns-clause-expressions
returns-clause-expressions c = λ ps h a top w p t u x e r n v end m d q b l k y. alias-called ps h a top w p t u x e r n v end m d q b l k y
