-- Packages of a program with numbers of their own.
use Rattle.std.proofs.Common.{◌≡◌, sym, ap, ◌∙◌, subst, ℕ, zero, suc, Bool, true, false, not, ◌&&◌, ◌||◌, List, [], ◌∷◌, Some, refl, is_some, arith}
use Rattle.std.specs.Prelude.{nat_eq, slice_get}
use Rattle.std.specs.List.{list_any}
use Rattle.std.proofs.lemmas.Bool.{eq-eqb}
use Rattle.std.proofs.lemmas.Option.{same_Some}
use Rattle.go_translation.specs.Packages as translated
use Rattle.go_translation.specs.Packages.{sources, has_path, has_number, are_distinct}
use Rattle.constant_steps.proofs.NamesOutside.{equal_numbers}
use Rattle.constant_steps.specs.Alone.{PackageAt, this_package, a_later_package}

pub turned : (a b : ℕ) → nat_eq a b ≡ false → nat_eq b a ≡ false
turned a b e = go (nat_eq b a) refl
  where
    go : (t : Bool) → nat_eq b a ≡ t → t ≡ false
    go true q = absurd (grind (arith, sym e ∙ eq-eqb a b (sym (equal_numbers b a q))))
    go false q = refl

module _ {S : Type 0} where
  pub others : (m : translated.Package S) (ms : List (translated.Package S)) → are_distinct (m ∷ ms) ≡ true → (list_any (has_number m.source.number) ms ≡ false) × (are_distinct ms ≡ true)
  others m ms e = go (list_any (has_path m.path) ms) (list_any (has_number m.source.number) ms) (are_distinct ms) e
    where
      go : (a b c : Bool) → (not (a || b) && c) ≡ true → (b ≡ false) × (c ≡ true)
      go false false true e = (refl, refl)
      go false false false e = absurd (grind (arith, e))
      go false true c e = absurd (grind (arith, e))
      go true b c e = absurd (grind (arith, e))

  pub none_so : (f : translated.Package S → Bool) (ms : List (translated.Package S)) (k : ℕ) (p : translated.Package S) → list_any f ms ≡ false → slice_get ms k ≡ Some p → f p ≡ false
  none_so f [] k p e q = absurd (grind (arith, ap is_some q))
  none_so f (m ∷ ms) zero p e q = ap f (sym (same_Some m p q)) ∙ first (f m) e
    where
      first : (b : Bool) → (b || list_any f ms) ≡ false → b ≡ false
      first true e = absurd (grind (arith, e))
      first false e = refl
  none_so f (m ∷ ms) (suc k) p e q = none_so f ms k p (rest (f m) e) q
    where
      rest : (b : Bool) → (b || list_any f ms) ≡ false → list_any f ms ≡ false
      rest true e = absurd (grind (arith, e))
      rest false e = e

  -- a package by its number in the list
  pub nth_package : (ms : List (translated.Package S)) → are_distinct ms ≡ true → (k : ℕ) (p : translated.Package S) → slice_get ms k ≡ Some p → PackageAt p.source k (sources ms)
  nth_package [] e k p q = absurd (grind (arith, ap is_some q))
  nth_package (m ∷ ms) e zero p q = subst (λ (r : translated.Package S). PackageAt r.source zero (m.source ∷ sources ms)) (same_Some m p q) this_package
  nth_package (m ∷ ms) e (suc k) p q =
      let o = others m ms e in
      a_later_package (turned p.source.number m.source.number (none_so (has_number m.source.number) ms k p o.0 q)) (nth_package ms o.1 k p q)
