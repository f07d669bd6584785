use Rattle.std.proofs.Common.{map, take}
use Rattle.file_names.specs.Places.{Finds}
use Rattle.file_names.proofs.imports.find_packages.Given as goal

abbrev pub invariant-loop-place : goal.invariant-loop-place
invariant-loop-place l = Finds l.places (map (λ p. p.path) (take l.place l.packages))
