use Rattle.std.proofs.Common.{◌≡◌, map, take}
use Rattle.file_tables.proofs.dependency_order.links.package_paths.Given as goal

abbrev pub invariant-loop-package : goal.invariant-loop-package
invariant-loop-package l = l.paths ≡ map (λ p. p.path) (take l.package-index l.packages)
