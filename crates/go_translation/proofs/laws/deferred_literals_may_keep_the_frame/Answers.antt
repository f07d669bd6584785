use Rattle.go_translation.proofs.HeldVariables.{deferred_is_held, param_kept}
use Rattle.go_translation.proofs.ProgramKept.{frames_kept}
use Rattle.go_translation.proofs.laws.deferred_literals_may_keep_the_frame.Goals as goal

pub returns-clause-variables : goal.returns-clause-variables
returns-clause-variables c = deferred_is_held

pub returns-clause-parameters : goal.returns-clause-parameters
returns-clause-parameters c = param_kept

pub returns-clause-frames : goal.returns-clause-frames
returns-clause-frames c = frames_kept
