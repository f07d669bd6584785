-- Checks: packages of one path are not distinct, and of two functions with one name the first counts.
use Rattle.std.specs.Prelude.{◌≡◌, refl, ℕ, true, false, List, [], ◌∷◌, codes}
use Rattle.go_kernel.specs.Kernel.{ImportPath, Func, Slot, InFrame, Vals, declared}
use Rattle.go_translation.specs.Calls.{function_named}
use Rattle.go_translation.specs.Packages.{Package, are_distinct}

abbrev package_at : ImportPath → ℕ → Package ℕ
package_at p i = record { path = p; source = record { number = i; name = codes "p"; at = 0; files = [] } }

one_path : are_distinct (package_at (codes "m/p") 1 ∷ package_at (codes "m/p") 2 ∷ []) ≡ false
one_path = refl

two_paths : are_distinct (package_at (codes "m/p") 1 ∷ package_at (codes "m/q") 2 ∷ []) ≡ true
two_paths = refl

abbrev returning : List Slot → Func
returning rs = record { params = []; slots = []; zeros = []; body = Vals []; results = rs }

first_counts : (declared ((function_named (codes "m/p") (codes "f"), returning []) ∷ (function_named (codes "m/p") (codes "f"), returning (InFrame (codes "x") ∷ [])) ∷ []) (function_named (codes "m/p") (codes "f"))).results ≡ []
first_counts = refl
