-- The paths of packages, one after another.
use Rattle.std.proofs.Common.{◌≡◌, ◌∙◌, refl, sym, ap, ℕ, zero, suc, ◌+◌, ◌<◌, ◌≤◌, Bool, true, false, ◌||◌, cond, List, [], ◌∷◌, ◌++◌, length, map, take, get_or, Option, Some, None, bytes_eq, arith}
use Rattle.std.specs.Prelude.{slice_get, if◌then◌else◌}
use Rattle.std.specs.Option.{option_map}
use Rattle.std.proofs.lemmas.List.{take_more, take_all, map-append, length-map}
use Rattle.pkg_graph.specs.ModuleFiles.PathLists.{number_of, has_path, with_path, AreDistinct}
use Rattle.pkg_graph.specs.Views.{package_view}
use Rattle.pkg_graph.specs.declared.packages.Package.{Package}

-- none before the first place of a path has it
none_before : (xs : List (List ℕ)) (i : ℕ) (q : List ℕ) → number_of xs q ≡ Some i → has_path (take i xs) q ≡ false
none_before [] i q e = absurd cc
none_before (x ∷ xs) zero q e = refl
none_before (x ∷ xs) (suc i) q e = by (bytes_eq q x) e (none_before xs i q)
  where
    behind : (o : Option ℕ) → number_of xs q ≡ o → option_map suc o ≡ Some (suc i) → (number_of xs q ≡ Some i → has_path (take i xs) q ≡ false) → has_path (take i xs) q ≡ false
    behind None e f further = absurd cc
    behind (Some j) e f further = let same : j ≡ i = cc in further (e ∙ ap Some same)

    by : (t : Bool) → cond t (Some 0) (option_map suc (number_of xs q)) ≡ Some (suc i) → (number_of xs q ≡ Some i → has_path (take i xs) q ≡ false) → (t || has_path (take i xs) q) ≡ false
    by true f further = absurd cc
    by false f further = behind (number_of xs q) refl f further

at_mapped : {A B : Type 0} (g : A → B) (xs : List A) (i : ℕ) (x : A) (d : B) → i < length xs → x ≡ get_or xs i x → get_or (map g xs) i d ≡ g x
at_mapped g [] i x d h e = absurd (omega (arith, h))
at_mapped g (y ∷ xs) zero x d h e = ap g (sym e)
at_mapped g (y ∷ xs) (suc i) x d h e = at_mapped g xs i x d (omega (arith, h)) e

taken_map : {A B : Type 0} (g : A → B) (xs : List A) (i : ℕ) → map g (take i xs) ≡ take i (map g xs)
taken_map g [] zero = refl
taken_map g [] (suc i) = refl
taken_map g (x ∷ xs) zero = refl
taken_map {B = B} g (x ∷ xs) (suc i) = ap (λ (ys : List B). g x ∷ ys) (taken_map g xs i)

abbrev path_of : Package → List ℕ
path_of p = p.path

-- one more path, which is new
pub one_path : (ps : List Package) (i : ℕ) (p : Package) (q : List ℕ) (was now : List (List ℕ)) → AreDistinct (map path_of ps) → i < length ps → p ≡ get_or ps i p → q ≡ p.path
    → was ≡ map path_of (take i ps) → now ≡ with_path was q → now ≡ map path_of (take (i + 1) ps)
one_path ps i p q was now d h e z w n =
    n
    ∙ ap (λ (xs : List (List ℕ)). with_path xs q) w
    ∙ ap (λ (r : List ℕ). with_path (map path_of (take i ps)) r) z
    ∙ ap (λ (b : Bool). if b then map path_of (take i ps) else map path_of (take i ps) ++ p.path ∷ []) new
    ∙ sym (ap (map path_of) (take_more ps i p h ∙ ap (λ (x : Package). take i ps ++ x ∷ []) (sym e)) ∙ map-append path_of (take i ps) (p ∷ []))
  where
    l : i < length (map path_of ps)
    l = omega (arith, h, length-map ps path_of)

    number : number_of (map path_of ps) p.path ≡ Some i
    number = ap (number_of (map path_of ps)) (sym (at_mapped path_of ps i p [] h e)) ∙ d i l

    new : has_path (map path_of (take i ps)) p.path ≡ false
    new = ap (λ (xs : List (List ℕ)). has_path xs p.path) (taken_map path_of ps i) ∙ none_before (map path_of ps) i p.path number

pub all_paths : (ps : List Package) (i : ℕ) (was : List (List ℕ)) → length ps ≤ i → was ≡ map path_of (take i ps) → was ≡ map path_of ps
all_paths ps i was h w = w ∙ ap (map path_of) (take_all i ps h)

-- the package with a number
pub viewed_at : (ps : List Package) (i : ℕ) (p : Package) → i < length ps → p ≡ get_or ps i p → slice_get (map package_view ps) i ≡ Some (package_view p)
viewed_at [] i p h e = absurd (omega (arith, h))
viewed_at (x ∷ ps) zero p h e = ap (λ (y : Package). Some (package_view y)) (sym e)
viewed_at (x ∷ ps) (suc i) p h e = viewed_at ps i p (omega (arith, h)) e

-- the paths are those of the packages as values
pub viewed_paths : (ps : List Package) → map path_of ps ≡ map (λ p. p.path) (map package_view ps)
viewed_paths [] = refl
viewed_paths (p ∷ ps) = ap (λ (qs : List (List ℕ)). p.path ∷ qs) (viewed_paths ps)
