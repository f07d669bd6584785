use Rattle.order_runs.specs.RunSteps.RunPackages.{packages_of}
use Rattle.order_runs.proofs.OrderedSteps.{program-means}
use Rattle.alias_runs.proofs.AliasImports.{alias-step}
use Rattle.alias_runs.proofs.OrderedAliases.{same-program}
use Rattle.alias_runs.proofs.laws.alias_steps_with_imports_mean_the_same.Goals as goal

pub returns-clause-code : goal.returns-clause-code
returns-clause-code c = λ same P P' t. alias-step same P P' t

pub returns-clause-program : goal.returns-clause-program
returns-clause-program c = λ marks st l after n h marked. same-program marks st l after n h marked

pub returns-clause-meaning : goal.returns-clause-meaning
returns-clause-meaning c = λ marks st l after n h marked. program-means (packages_of st.packages marked) (packages_of after.packages marked) (same-program marks st l after n h marked)
