use Rattle.std.proofs.Common.{◌≡◌, ◌||◌, ℕ, List, drop, map}
use Rattle.directive_scan.specs.Around.{has_name, declares}
use Rattle.directive_scan.proofs.around.declared.Given as goal

abbrev pub invariant-loop-member : goal.invariant-loop-member
invariant-loop-member l = (n : List ℕ) → (has_name l.names n || declares (map (λ m. m) (drop l.member-index l.members)) n) ≡ declares (map (λ m. m) l.members) n
