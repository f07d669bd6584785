use Rattle.printed_constants.proofs.TypedParts.MarkedRuns.ReadyModules.Typed.{linked_typed}
use Rattle.run_rules.specs.Respanned.{packages_with}
use Rattle.run_rules.specs.Run.{here_of}
use Rattle.order_runs.specs.RunSteps.RunPackages.{packages_of}
use Rattle.order_runs.proofs.OrderedSteps.{program-means}
use Rattle.printed_constants.proofs.TypedParts.MarkedRuns.TakenNames.Steps.{same-program}
use Rattle.printed_constants.proofs.TypedParts.MarkedRuns.TakenNames.Runs.{importing-takes, typed-next, module-keeps}
use Rattle.printed_constants.proofs.typed_parts.marked_runs.taken_names.names_are_taken.Goals as goal

pub returns-clause-old : goal.returns-clause-old
returns-clause-old c = λ marks st l after n h. importing-takes marks st l after n h

pub returns-clause-steps : goal.returns-clause-steps
returns-clause-steps c = λ marks st l after n h marked. same-program marks st l after n h marked

pub returns-clause-typed : goal.returns-clause-typed
returns-clause-typed c = λ marks st l after n h w. (typed-next marks st l after n h w, linked_typed after.packages (typed-next marks st l after n h w))

pub returns-clause-runs : goal.returns-clause-runs
returns-clause-runs c = λ files ps texts marks last log m run h marked. program-means (packages_of ps marked) (packages_of (packages_with here_of last.packages) marked) (module-keeps ps texts marks last log run h marked)
