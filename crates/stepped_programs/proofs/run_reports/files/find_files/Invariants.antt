use Rattle.std.proofs.Common.{map, take}
use Rattle.file_names.specs.Places.{Finds}
use Rattle.stepped_programs.proofs.run_reports.files.find_files.Given as goal

abbrev pub invariant-loop-place : goal.invariant-loop-place
invariant-loop-place l = Finds l.places (map (λ f. f.path.now) (take l.place l.files))
