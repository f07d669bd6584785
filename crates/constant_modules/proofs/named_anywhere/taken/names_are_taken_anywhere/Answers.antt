use Rattle.run_rules.specs.Respanned.{packages_with}
use Rattle.run_rules.specs.Run.{here_of}
use Rattle.order_runs.specs.RunSteps.RunPackages.{packages_of}
use Rattle.order_runs.proofs.OrderedSteps.{program-means}
use Rattle.constant_modules.proofs.NamedAnywhere.Steps.{same-program}
use Rattle.constant_modules.proofs.NamedAnywhere.TakenRuns.{typed-next, linked-next, module-keeps}
use Rattle.constant_modules.proofs.named_anywhere.taken.names_are_taken_anywhere.Goals as goal

pub returns-clause-steps : goal.returns-clause-steps
returns-clause-steps c = λ marks st l after n h marked. same-program marks st l after n h marked

pub returns-clause-typed : goal.returns-clause-typed
returns-clause-typed c = λ marks st l after n h w. (typed-next marks st l after n h w, linked-next marks st l after n h w)

pub returns-clause-runs : goal.returns-clause-runs
returns-clause-runs c = λ files ps texts marks last log m run h marked. program-means (packages_of ps marked) (packages_of (packages_with here_of last.packages) marked) (module-keeps ps texts marks last log run h marked)
