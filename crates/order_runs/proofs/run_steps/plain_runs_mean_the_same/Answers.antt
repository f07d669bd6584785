use Rattle.order_runs.proofs.RunSteps.MembersViewed.{sources-linked}
use Rattle.order_runs.proofs.RunSteps.PlainRuns.{read-next-keeps, module-means}
use Rattle.order_runs.proofs.RunSteps.SameMeant.{same-code}
use Rattle.order_runs.proofs.RunSteps.UsesAlone.{stands-alone}
use Rattle.run_rules.specs.Respanned.{packages_with}
use Rattle.run_rules.specs.Run.{here_of}
use Rattle.order_runs.specs.RunSteps.RunPackages.{packages_of}
use Rattle.order_runs.proofs.run_steps.plain_runs_mean_the_same.Goals as goal

pub returns-clause-code : goal.returns-clause-code
returns-clause-code c = λ P P' k. same-code P P' k

pub returns-clause-linked : goal.returns-clause-linked
returns-clause-linked c = λ ps. sources-linked ps

pub returns-clause-alone : goal.returns-clause-alone
returns-clause-alone c = λ marks st l after n reads e part d h. stands-alone marks st l after n reads e part d h

pub returns-clause-steps : goal.returns-clause-steps
returns-clause-steps c = λ marks st l after n reads h marked. read-next-keeps marks st l after n reads h marked

pub returns-clause-meaning : goal.returns-clause-meaning
returns-clause-meaning c = λ marks st l after n reads h marked. same-code (packages_of st.packages marked) (packages_of after.packages marked) (read-next-keeps marks st l after n reads h marked)

pub returns-clause-runs : goal.returns-clause-runs
returns-clause-runs c = λ files ps texts marks last log m run h marked. same-code (packages_of ps marked) (packages_of (packages_with here_of last.packages) marked) (module-means files ps texts marks last log m run h marked)
