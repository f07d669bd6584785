-- The numbers of packages by their paths.
use Rattle.std.proofs.Common.{◌≡◌, ◌∙◌, ◌+◌, ℕ, zero, suc, Bool, true, false, cond, List, [], ◌∷◌, Option, Some, None, refl, ap, length, map, bytes_eq, arith}
use Rattle.std.specs.Option.{option_map}
use Rattle.pkg_graph.specs.ModuleFiles.PathLists.{number_of}
use Rattle.pkg_graph.specs.Views.{package_view}
use Rattle.pkg_graph.specs.declared.packages.Package.{Package}
use Rattle.run_rules.specs.Programs.{number_from, package_number}

abbrev paths : List Package → List (List ℕ)
paths ps = map (λ p. p.path) ps

from_found : (ps : List Package) (q : List ℕ) (k j : ℕ) → number_of (paths ps) q ≡ Some j → number_from k (map package_view ps) q ≡ k + j
from_found [] q k j e = absurd cc
from_found (p ∷ ps) q k j e = by (bytes_eq q p.path) j e (λ i. from_found ps q (suc k) i)
  where
    behind :
        (j : ℕ) (o : Option ℕ) → number_of (paths ps) q ≡ o → option_map suc o ≡ Some j
        → ((i : ℕ) → number_of (paths ps) q ≡ Some i → number_from (suc k) (map package_view ps) q ≡ suc k + i)
        → number_from (suc k) (map package_view ps) q ≡ k + j
    behind j None e f further = absurd cc
    behind zero (Some i) e f further = absurd cc
    behind (suc j) (Some i) e f further =
        let same : i ≡ j = cc in
        let on : suc k + j ≡ k + suc j = omega arith in
        further j (e ∙ ap Some same) ∙ on

    by :
        (t : Bool) (j : ℕ) → cond t (Some 0) (option_map suc (number_of (paths ps) q)) ≡ Some j
        → ((i : ℕ) → number_of (paths ps) q ≡ Some i → number_from (suc k) (map package_view ps) q ≡ suc k + i)
        → cond t k (number_from (suc k) (map package_view ps) q) ≡ k + j
    by true zero f further = let on : k ≡ k + 0 = omega arith in on
    by true (suc j) f further = absurd cc
    by false j f further = behind j (number_of (paths ps) q) refl f further

from_absent : (ps : List Package) (q : List ℕ) (k : ℕ) → number_of (paths ps) q ≡ None → number_from k (map package_view ps) q ≡ k + length ps
from_absent [] q k e = let on : k ≡ k + 0 = omega arith in on
from_absent (p ∷ ps) q k e = by (bytes_eq q p.path) e (from_absent ps q (suc k))
  where
    behind :
        (o : Option ℕ) → number_of (paths ps) q ≡ o → option_map suc o ≡ None
        → (number_of (paths ps) q ≡ None → number_from (suc k) (map package_view ps) q ≡ suc k + length ps)
        → number_from (suc k) (map package_view ps) q ≡ k + suc (length ps)
    behind None e f further = let on : suc k + length ps ≡ k + suc (length ps) = omega arith in further e ∙ on
    behind (Some i) e f further = absurd cc

    by :
        (t : Bool) → cond t (Some 0) (option_map suc (number_of (paths ps) q)) ≡ None
        → (number_of (paths ps) q ≡ None → number_from (suc k) (map package_view ps) q ≡ suc k + length ps)
        → cond t k (number_from (suc k) (map package_view ps) q) ≡ k + suc (length ps)
    by true f further = absurd cc
    by false f further = behind (number_of (paths ps) q) refl f further

-- the package with the path
pub number_found : (ps : List Package) (q : List ℕ) (j : ℕ) → number_of (paths ps) q ≡ Some j → package_number (map package_view ps) q ≡ j
number_found ps q j e = let on : 0 + j ≡ j = omega arith in from_found ps q 0 j e ∙ on

-- no package has the path
pub number_absent : (ps : List Package) (q : List ℕ) → number_of (paths ps) q ≡ None → package_number (map package_view ps) q ≡ length ps
number_absent ps q e = let on : 0 + length ps ≡ length ps = omega arith in from_absent ps q 0 e ∙ on
