use Rattle.constant_steps.proofs.QualifiedSteps.FormStillUsed.{form_still_used, own_stays}
use Rattle.constant_steps.proofs.QualifiedSteps.FormsNamed.{NewNamed, new_named}
use Rattle.constant_steps.proofs.QualifiedSteps.NamedImports.{named_imports, named_step}
use Rattle.constant_steps.proofs.QualifiedSteps.NamedLinked.{named_linked}
use Rattle.constant_steps.proofs.QualifiedSteps.NamedRuns.{named_run}
use Rattle.constant_steps.proofs.QualifiedSteps.NamedSwaps.{named_swaps}
use Rattle.constant_steps.proofs.QualifiedSteps.UsedElsewhere.{used_elsewhere}
use Rattle.constant_steps.proofs.qualified_steps.named_constants_mean_the_same.Goals as goal

pub returns-clause-form : goal.returns-clause-form
returns-clause-form c = λ same commented rs marks x u v. let n : NewNamed same commented rs marks x u v = new_named same commented rs marks x u v in (n.names, n.same_name, n.range_is)

pub returns-clause-uses : goal.returns-clause-uses
returns-clause-uses c = λ same commented rs marks x u v ps more a well. named_swaps same commented rs marks x u v ps more a well

pub returns-clause-imports : goal.returns-clause-imports
returns-clause-imports c = λ same commented rs marks x u v ms Q a typed stay. named_imports same commented rs marks x u v ms Q a typed stay

pub returns-clause-meaning : goal.returns-clause-meaning
returns-clause-meaning c = λ same commented rs marks x u v P a stay. named_step same commented rs marks x u v P a stay

pub returns-clause-linked : goal.returns-clause-linked
returns-clause-linked c = λ same commented rs marks x u v ms a h d. named_linked same commented rs marks x u v ms a h d

pub returns-clause-runs : goal.returns-clause-runs
returns-clause-runs c = λ same P P' r. named_run same P P' r

pub returns-clause-used : goal.returns-clause-used
returns-clause-used c = λ same commented rs marks x u v ps more a listed. form_still_used same commented rs marks x u v ps more a listed

pub returns-clause-own : goal.returns-clause-own
returns-clause-own c = λ same commented rs marks x u v ps more a s n is listed. own_stays same commented rs marks x u v ps more a s n is listed

pub returns-clause-elsewhere : goal.returns-clause-elsewhere
returns-clause-elsewhere c = λ same commented rs marks x u v ms Q a n typed e. used_elsewhere same commented rs marks x u v ms Q a n typed e
