use Rattle.kept_types.proofs.StepsKeep.{step_keeps, run_keeps}
use Rattle.kept_types.proofs.laws.typed_steps_keep_tables.Goals as goal

pub returns-clause-steps : goal.returns-clause-steps
returns-clause-steps c = λ marks st l after n t h w has. step_keeps marks st l after n t h w has

pub returns-clause-runs : goal.returns-clause-runs
returns-clause-runs c = λ marks st last log t run h w has. run_keeps marks st last log t run h w has
