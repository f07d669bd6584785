use Rattle.run_rules.specs.Respanned.{packages_with}
use Rattle.run_rules.specs.Run.{here_of}
use Rattle.order_runs.specs.RunSteps.RunPackages.{packages_of}
use Rattle.order_runs.proofs.OrderedSteps.{same-program, program-means}
use Rattle.order_runs.proofs.OrderedRuns.{module-keeps}
use Rattle.order_runs.proofs.laws.runs_with_imports_mean_the_same.Goals as goal

pub returns-clause-program : goal.returns-clause-program
returns-clause-program c = λ P P' k. program-means P P' k

pub returns-clause-steps : goal.returns-clause-steps
returns-clause-steps c = λ marks st l after n h marked. same-program marks st l after n h marked

pub returns-clause-meaning : goal.returns-clause-meaning
returns-clause-meaning c = λ marks st l after n h marked. program-means (packages_of st.packages marked) (packages_of after.packages marked) (same-program marks st l after n h marked)

pub returns-clause-runs : goal.returns-clause-runs
returns-clause-runs c = λ files ps texts marks last log m run h marked. program-means (packages_of ps marked) (packages_of (packages_with here_of last.packages) marked) (module-keeps ps texts marks last log run h marked)
