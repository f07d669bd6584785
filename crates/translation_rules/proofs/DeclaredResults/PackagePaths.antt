-- Packages with distinct paths and numbers have one number a path.
use Rattle.std.specs.Prelude.{◌≡◌, refl, ℕ, Bool, true, false, not, ◌&&◌, ◌||◌, List, [], ◌∷◌, if◌then◌else◌, nat_eq}
use Rattle.std.specs.List.{list_any}
use mathlib.Core.Path.{ap, sym, ◌∙◌}
use Rattle.std.proofs.Common.{arith}
use Rattle.std.proofs.lemmas.Bool.Decides.{nat_tests}
use Rattle.std.proofs.lemmas.Slice.Eq.{bytes_eq-Decides}
use Rattle.go_kernel.specs.Kernel.{ImportPath}
use Rattle.go_translation.specs.Values.{path_of}
use Rattle.go_translation.specs.Packages.{Package, paths_in, has_path, has_number, are_distinct}

pub same_number : (a b : ℕ) → nat_eq a b ≡ true → a ≡ b
same_number a b e = grind (arith, nat_tests, e)

pub and_left : (a b : Bool) → (a && b) ≡ true → a ≡ true
and_left true b e = refl
and_left false b e = grind (arith, e)

pub and_right : (a b : Bool) → (a && b) ≡ true → b ≡ true
and_right true b e = e
and_right false b e = grind (arith, e)

both_clash : {A : Type 0} (a b : Bool) → not (a || b) ≡ true → a ≡ true → A
both_clash true b e f = absurd (grind (arith, e))
both_clash false b e f = absurd (grind (arith, f))

module _ {S : Type 0} where
  -- a package has this number
  abbrev pub numbered : ℕ → List (Package S) → Bool
  numbered a ps = list_any (has_number a) ps

  path_there : (ps : List (Package S)) (a : ℕ) (p : ImportPath) → numbered a ps ≡ true → p ≡ path_of (paths_in ps) a → list_any (has_path p) ps ≡ true
  path_there [] a p e q = grind (arith, e)
  path_there (x ∷ ps) a p e q = go (nat_eq x.source.number a) e q (path_there ps a p)
    where
      or_true : (b : Bool) → (b || true) ≡ true
      or_true true = refl
      or_true false = refl

      go : (b : Bool) → (b || numbered a ps) ≡ true → p ≡ (if b then x.path else path_of (paths_in ps) a) → (numbered a ps ≡ true → p ≡ path_of (paths_in ps) a → list_any (has_path p) ps ≡ true) → list_any (has_path p) (x ∷ ps) ≡ true
      go true e q f = ap (λ b. b || list_any (has_path p) ps) ((bytes_eq-Decides x.path p).1 (sym q))
      go false e q f = ap (λ b. has_path p x || b) (f e q) ∙ or_true (has_path p x)

  pub one_number : (ps : List (Package S)) (a b : ℕ) → are_distinct ps ≡ true → numbered a ps ≡ true → numbered b ps ≡ true → path_of (paths_in ps) a ≡ path_of (paths_in ps) b → a ≡ b
  one_number [] a b d e f q = grind (arith, e)
  one_number (x ∷ ps) a b d e f q = go (nat_eq x.source.number a) refl (nat_eq x.source.number b) refl e f q (one_number ps a b (and_right (not (list_any (has_path x.path) ps || list_any (has_number x.source.number) ps)) (are_distinct ps) d))
    where
      there : not (list_any (has_path x.path) ps || list_any (has_number x.source.number) ps) ≡ true
      there = and_left (not (list_any (has_path x.path) ps || list_any (has_number x.source.number) ps)) (are_distinct ps) d

      go : (s : Bool) → nat_eq x.source.number a ≡ s → (t : Bool) → nat_eq x.source.number b ≡ t → (s || numbered a ps) ≡ true → (t || numbered b ps) ≡ true
          → (if s then x.path else path_of (paths_in ps) a) ≡ (if t then x.path else path_of (paths_in ps) b)
          → (numbered a ps ≡ true → numbered b ps ≡ true → path_of (paths_in ps) a ≡ path_of (paths_in ps) b → a ≡ b) → a ≡ b
      go true y true z e f q r = sym (same_number x.source.number a y) ∙ same_number x.source.number b z
      go true y false z e f q r = both_clash (list_any (has_path x.path) ps) (list_any (has_number x.source.number) ps) there (path_there ps b x.path f q)
      go false y true z e f q r = both_clash (list_any (has_path x.path) ps) (list_any (has_number x.source.number) ps) there (path_there ps a x.path e (sym q))
      go false y false z e f q r = r e f q
