use Rattle.order_runs.proofs.CycleRuns.KeptImports.Kept.{keeps-names, keeps-look-ups}
use Rattle.order_runs.proofs.cycle_runs.kept_imports.names_are_kept.Goals as goal

pub returns-clause-identifiers : goal.returns-clause-identifiers
returns-clause-identifiers c = λ marks st l after n s few paths removes. keeps-names marks st l after n s few paths removes

pub returns-clause-look_ups : goal.returns-clause-look_ups
returns-clause-look_ups c = λ marks st l after n s few paths removes. keeps-look-ups marks st l after n s few paths removes
