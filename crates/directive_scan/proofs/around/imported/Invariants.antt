use Rattle.std.proofs.Common.{◌≡◌, ◌||◌, ℕ, List, drop, map}
use Rattle.directive_scan.specs.Around.{has_name, declares}
use Rattle.directive_scan.proofs.around.imported.Given as goal

abbrev pub invariant-loop-import : goal.invariant-loop-import
invariant-loop-import l = (n : List ℕ) → (has_name l.names n || declares (map (λ i. i.name) (drop l.import-index l.imports)) n) ≡ declares (map (λ i. i.name) l.imports) n
