use Rattle.run_rules.specs.Respanned.{packages_with}
use Rattle.run_rules.specs.Run.{here_of}
use Rattle.order_runs.specs.RunSteps.RunPackages.{packages_of}
use Rattle.order_runs.proofs.RunSteps.SameMeant.{same-code}
use Rattle.order_runs.proofs.OrderedSteps.{program-means}
use Rattle.alias_runs.proofs.AliasImports.{names-run}
use Rattle.alias_runs.proofs.NamesRuns.{module-keeps}
use Rattle.alias_runs.proofs.laws.runs_over_names_mean_the_same.Goals as goal

pub returns-clause-code : goal.returns-clause-code
returns-clause-code c = λ same P P' r. names-run same P P' r

pub returns-clause-packages : goal.returns-clause-packages
returns-clause-packages c = λ same P P' r. same-code P P' (names-run same P P' r)

pub returns-clause-runs : goal.returns-clause-runs
returns-clause-runs c = λ files ps texts marks last log m run h marked. program-means (packages_of ps marked) (packages_of (packages_with here_of last.packages) marked) (module-keeps ps texts marks last log run h marked)
