use Rattle.std.proofs.Common.{take}
use Rattle.file_names.specs.Places.{Finds}
use Rattle.run_plans.specs.PlannedFiles.Referred.{referred}
use Rattle.run_plans.proofs.planned_files.texts.path_places.Given as goal

abbrev pub invariant-loop-place : goal.invariant-loop-place
invariant-loop-place l = Finds l.places (referred (take l.place l.paths))
