-- A growing part of a list that stays once it hasn't grown has stopped growing after as many steps as the list is long.
use Rattle.std.specs.Prelude.{◌≡◌, refl, ℕ, zero, suc, ◌≤◌, Bool, true, false, List, [], ◌∷◌, length, ◌⊎◌, if◌then◌else◌}
use mathlib.Core.Path.{sym, ◌∙◌}
use Rattle.std.proofs.Common.{inl, inr, arith}

module _ {A : Type 0} (g : ℕ → A → Bool) where
  -- a step changes nothing
  abbrev pub Stays : ℕ → List A → Type 0
  Stays k [] = Unit {0}
  Stays k (x ∷ xs) = (g (suc k) x ≡ g k x) × Stays k xs

  -- how many are in the part
  abbrev count : ℕ → List A → ℕ
  count k [] = 0
  count k (x ∷ xs) = if g k x then suc (count k xs) else count k xs

  count_most : (k : ℕ) (xs : List A) → count k xs ≤ length xs
  count_most k [] = omega arith
  count_most k (x ∷ xs) = go (g k x) (count_most k xs)
    where
      go : (b : Bool) → count k xs ≤ length xs → (if b then suc (count k xs) else count k xs) ≤ suc (length xs)
      go true l = omega (arith, l)
      go false l = omega (arith, l)

  module _ (rises : (k : ℕ) (x : A) → g k x ≡ true → g (suc k) x ≡ true) where
    compare : (k : ℕ) (xs : List A) → (count k xs ≤ count (suc k) xs) ×
        (Stays k xs ⊎ (suc (count k xs) ≤ count (suc k) xs))
    compare k [] = (omega arith, inl tt)
    compare k (x ∷ xs) = go (g k x) (g (suc k) x) refl refl (rises k x) (compare k xs).0 (compare k xs).1
      where
        go : (a b : Bool) → g k x ≡ a → g (suc k) x ≡ b → (g k x ≡ true → g (suc k) x ≡ true) →
            count k xs ≤ count (suc k) xs → Stays k xs ⊎ (suc (count k xs) ≤ count (suc k) xs)
            → ((if a then suc (count k xs) else count k xs) ≤ (if b then suc (count (suc k) xs) else count (suc k) xs))
            × (((g (suc k) x ≡ g k x) × Stays k xs) ⊎ (suc (if a then suc (count k xs) else count k xs) ≤
            (if b then suc (count (suc k) xs) else count (suc k) xs)))
        go true true e f r l (inl s) = (omega (arith, l), inl (f ∙ sym e, s))
        go true true e f r l (inr m) = (omega (arith, l), inr (omega (arith, m)))
        go true false e f r l s = absurd (grind (arith, f, r e))
        go false true e f r l s = (omega (arith, l), inr (omega (arith, l)))
        go false false e f r l (inl s) = (l, inl (f ∙ sym e, s))
        go false false e f r l (inr m) = (l, inr m)

    module _ (xs : List A) (next : (k : ℕ) → Stays k xs → Stays (suc k) xs) where
      stay_or_more : (k : ℕ) → Stays k xs ⊎ (suc k ≤ count (suc k) xs)
      stay_or_more zero = go (compare zero xs).1
        where
          go : Stays zero xs ⊎ (suc (count zero xs) ≤ count (suc zero) xs) →
              Stays zero xs ⊎ (suc zero ≤ count (suc zero) xs)
          go (inl s) = inl s
          go (inr m) = inr (omega (arith, m))
      stay_or_more (suc k) = go (stay_or_more k) (compare (suc k) xs).1
        where
          go : Stays k xs ⊎ (suc k ≤ count (suc k) xs) → Stays (suc k) xs ⊎
              (suc (count (suc k) xs) ≤ count (suc (suc k)) xs) → Stays (suc k) xs ⊎
              (suc (suc k) ≤ count (suc (suc k)) xs)
          go (inl s) c = inl (next k s)
          go (inr m) (inl s) = inl s
          go (inr m) (inr l) = inr (omega (arith, l, m))

      pub stays_at_last : Stays (length xs) xs
      stays_at_last = go (stay_or_more (length xs))
        where
          go : Stays (length xs) xs ⊎ (suc (length xs) ≤ count (suc (length xs)) xs) → Stays (length xs) xs
          go (inl s) = s
          go (inr m) = absurd (omega (arith, m, count_most (suc (length xs)) xs))
