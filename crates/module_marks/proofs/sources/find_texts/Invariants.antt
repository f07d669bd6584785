use Rattle.std.proofs.Common.{map, take}
use Rattle.file_names.specs.Places.{Finds}
use Rattle.module_marks.proofs.sources.find_texts.Given as goal

abbrev pub invariant-loop-place : goal.invariant-loop-place
invariant-loop-place l = Finds l.places (map (λ s. s.file.now.path) (take l.place l.files))
