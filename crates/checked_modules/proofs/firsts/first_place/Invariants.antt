use Rattle.std.proofs.Common.{◌≡◌, drop}
use Rattle.checked_modules.specs.Firsts.{first_place}
use Rattle.checked_modules.proofs.firsts.first_place.Given as goal

abbrev pub invariant-loop-file : goal.invariant-loop-file
invariant-loop-file l = first_place l.home 0 l.bodies ≡ first_place l.home l.file (drop l.file l.bodies)
