use Rattle.std.proofs.Common.{◌≡◌, drop}
use Rattle.run_plans.specs.PlannedFiles.Limits.{file_with_path}
use Rattle.run_plans.proofs.planned_files.limits.read_file.Given as goal

abbrev pub invariant-loop-file : goal.invariant-loop-file
invariant-loop-file l = file_with_path (drop l.file-index l.files) l.path ≡ file_with_path l.files l.path
