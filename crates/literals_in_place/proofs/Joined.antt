-- The numbers, import paths and sources of packages with further ones behind them.
use Rattle.std.specs.Prelude.{◌≡◌, refl, ℕ, Bool, true, false, not, ◌||◌, List, [], ◌∷◌, ◌++◌, map, if◌then◌else◌, nat_eq}
use Rattle.std.specs.List.{list_any}
use mathlib.Core.Path.{ap, sym, ◌∙◌}
use Rattle.std.proofs.Common.{arith}
use Rattle.std.proofs.lemmas.Bool.Decides.{nat_tests}
use Rattle.go_kernel.specs.Kernel.{ImportPath}
use Rattle.go_translation.specs.Packages.{Package, sources, paths_in, has_path, has_number, are_distinct}
use Rattle.go_translation.specs.Values.{path_of}
use Rattle.typed_in_place.proofs.Rising.{and_first, and_second}

pub map_both : {A B : Type 0} (f : A → B) (xs ys : List A) → map f (xs ++ ys) ≡ (map f xs ++ map f ys)
map_both f [] ys = refl
map_both f (x ∷ xs) ys = λ z. f x ∷ map_both f xs ys z

module _ {A : Type 0} (f : A → Bool) where
  or_right : (a b : Bool) → b ≡ true → (a || b) ≡ true
  or_right true b e = refl
  or_right false b e = e

  pub any_front : (xs ys : List A) → list_any f xs ≡ true → list_any f (xs ++ ys) ≡ true
  any_front [] ys e = cc
  any_front (x ∷ xs) ys e = go (f x) e (any_front xs ys)
    where
      go : (b : Bool) → (b || list_any f xs) ≡ true → (list_any f xs ≡ true → list_any f (xs ++ ys) ≡ true) → (b || list_any f (xs ++ ys)) ≡ true
      go true e k = refl
      go false e k = k e

  pub any_back : (xs ys : List A) → list_any f ys ≡ true → list_any f (xs ++ ys) ≡ true
  any_back [] ys e = e
  any_back (x ∷ xs) ys e = or_right (f x) (list_any f (xs ++ ys)) (any_back xs ys e)

same_number : (a b : ℕ) → nat_eq a b ≡ true → a ≡ b
same_number a b e = grind (arith, nat_tests, e)

not_second : (a b : Bool) → not (a || b) ≡ true → b ≡ false
not_second true b e = absurd (grind (arith, e))
not_second false true e = absurd (grind (arith, e))
not_second false false e = refl

module _ {S : Type 0} where
  pub paths_both : (ps Q : List (Package S)) → paths_in (ps ++ Q) ≡ paths_in ps ++ paths_in Q
  paths_both [] Q = refl
  paths_both (p ∷ ps) Q = λ z. (p.source.number, p.path) ∷ paths_both ps Q z

  pub sources_both : (ps Q : List (Package S)) → sources (ps ++ Q) ≡ sources ps ++ sources Q
  sources_both [] Q = refl
  sources_both (p ∷ ps) Q = λ z. p.source ∷ sources_both ps Q z

  -- further packages change nothing of their paths
  pub path_first : (ms : List (Package S)) (more : List (ℕ × ImportPath)) (k : ℕ) → list_any (has_number k) ms ≡ true → path_of (paths_in ms) k ≡ path_of (paths_in ms ++ more) k
  path_first [] more k e = cc
  path_first (m ∷ ms) more k e = go (nat_eq m.source.number k) e (path_first ms more k)
    where
      go : (b : Bool) → (b || list_any (has_number k) ms) ≡ true → (list_any (has_number k) ms ≡ true → path_of (paths_in ms) k ≡ path_of (paths_in ms ++ more) k) → (if b then m.path else path_of (paths_in ms) k) ≡ (if b then m.path else path_of (paths_in ms ++ more) k)
      go true e f = refl
      go false e f = f e

  -- distinct packages have no number of a further one
  pub numbers_apart : (ms Q : List (Package S)) → are_distinct (ms ++ Q) ≡ true → (k : ℕ) → list_any (has_number k) ms ≡ true → list_any (has_number k) Q ≡ true → false ≡ true
  numbers_apart [] Q d k e q = e
  numbers_apart (m ∷ ms) Q d k e q =
      go (nat_eq m.source.number k) refl e (λ f. numbers_apart ms Q (and_second (not (list_any (has_path m.path) (ms ++ Q) || list_any (has_number m.source.number) (ms ++ Q))) (are_distinct (ms ++ Q)) d) k f q)
    where
      here : not (list_any (has_path m.path) (ms ++ Q) || list_any (has_number m.source.number) (ms ++ Q)) ≡ true
      here = and_first (not (list_any (has_path m.path) (ms ++ Q) || list_any (has_number m.source.number) (ms ++ Q))) (are_distinct (ms ++ Q)) d

      go : (b : Bool) → nat_eq m.source.number k ≡ b → (b || list_any (has_number k) ms) ≡ true → (list_any (has_number k) ms ≡ true → false ≡ true) → false ≡ true
      go true f e r = sym (not_second (list_any (has_path m.path) (ms ++ Q)) (list_any (has_number m.source.number) (ms ++ Q)) here) ∙ any_back (has_number m.source.number) ms Q (ap (λ j. list_any (has_number j) Q) (same_number m.source.number k f) ∙ q)
      go false f e r = r e
