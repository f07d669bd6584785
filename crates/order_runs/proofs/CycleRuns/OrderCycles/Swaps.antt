-- Numbered items of which none has the number of another are determined by what is looked up, but for their order.
use Rattle.std.proofs.Common.{◌≡◌, refl, sym, ◌∙◌, subst, ℕ, Bool, true, false, List, [], ◌∷◌, Option, Some, None, if◌then◌else◌, arith}
use Rattle.std.specs.Prelude.{nat_eq}
use Rattle.std.proofs.lemmas.Option.{same_Some}
use Rattle.typed_in_place.proofs.SameWorlds.AtHome.{nat_same}

pub nat_self : (a : ℕ) → nat_eq a a ≡ true
nat_self a = grind arith

module _ {A : Type 0} where
  -- neighbours with different numbers change places, any number of times
  pub data Swaps : List (ℕ × A) → List (ℕ × A) → Type 0 where
    no_items : Swaps [] []
    later_items : (x : ℕ × A) {xs ys : List (ℕ × A)} → Swaps xs ys → Swaps (x ∷ xs) (x ∷ ys)
    first_two : (x y : ℕ × A) (xs : List (ℕ × A)) → nat_eq x.0 y.0 ≡ false → Swaps (x ∷ y ∷ xs) (y ∷ x ∷ xs)
    and_then : {xs ys zs : List (ℕ × A)} → Swaps xs ys → Swaps ys zs → Swaps xs zs

  swaps-itself : (xs : List (ℕ × A)) → Swaps xs xs
  swaps-itself [] = no_items
  swaps-itself (x ∷ xs) = later_items x (swaps-itself xs)

  pub swaps-back : {xs ys : List (ℕ × A)} → Swaps xs ys → Swaps ys xs
  swaps-back no_items = no_items
  swaps-back (later_items x s) = later_items x (swaps-back s)
  swaps-back (first_two x y xs e) = first_two y x xs (other (nat_eq y.0 x.0) refl)
    where
      other : (b : Bool) → nat_eq y.0 x.0 ≡ b → nat_eq y.0 x.0 ≡ false
      other false g = g
      other true g = let c : true ≡ false = sym (nat_self x.0) ∙ (λ z. nat_eq x.0 (sym (nat_same y.0 x.0 g) z)) ∙ e in cc
  swaps-back (and_then s t) = and_then (swaps-back t) (swaps-back s)

  -- the item with a number
  abbrev pub item : List (ℕ × A) → ℕ → Option A
  item [] k = None
  item (x ∷ xs) k = if nat_eq x.0 k then Some x.1 else item xs k

  -- no two have one number
  abbrev pub Distinct : List (ℕ × A) → Type 0
  Distinct [] = Unit {0}
  Distinct (x ∷ xs) = (item xs x.0 ≡ None) × Distinct xs

  -- without the first that has a number
  abbrev without : ℕ → List (ℕ × A) → List (ℕ × A)
  without k [] = []
  without k (x ∷ xs) = if nat_eq x.0 k then xs else x ∷ without k xs

  out-first : (k : ℕ) (a : A) (xs : List (ℕ × A)) → item xs k ≡ Some a → Swaps xs ((k, a) ∷ without k xs)
  out-first k a [] e = cc
  out-first k a (x ∷ xs) e = by (out-first k a xs) (nat_eq x.0 k) refl e
    where
      by : (item xs k ≡ Some a → Swaps xs ((k, a) ∷ without k xs)) → (b : Bool) → nat_eq x.0 k ≡ b → (if b then Some x.1 else item xs k) ≡ Some a → Swaps (x ∷ xs) ((k, a) ∷ (if b then xs else x ∷ without k xs))
      by i true g h = subst (λ (y : ℕ × A). Swaps (x ∷ xs) (y ∷ xs)) (λ z. (nat_same x.0 k g z, same_Some x.1 a h z)) (swaps-itself (x ∷ xs))
      by i false g h = and_then (later_items x (i h)) (first_two x (k, a) (without k xs) g)

  other-items : (k j : ℕ) (xs : List (ℕ × A)) → Distinct xs → item (without k xs) j ≡ (if nat_eq k j then None else item xs j)
  other-items k j [] d = by (nat_eq k j)
    where
      by : (b : Bool) → ◌≡◌ {A = Option A} None (if b then None else None)
      by true = refl
      by false = refl
  other-items k j (x ∷ xs) d = by (other-items k j xs d.1) (nat_eq x.0 k) refl (nat_eq k j) refl (nat_eq x.0 j) refl
    where
      first-out : nat_eq x.0 k ≡ true → (c : Bool) → nat_eq k j ≡ c → item xs j ≡ (if c then None else (if nat_eq x.0 j then Some x.1 else item xs j))
      first-out g true h = (λ z. item xs (sym (nat_same x.0 k g ∙ nat_same k j h) z)) ∙ d.0
      first-out g false h = sym (λ z. if ((λ y. nat_eq (nat_same x.0 k g y) j) ∙ h) z then Some x.1 else item xs j)

      never : nat_eq x.0 k ≡ false → nat_eq k j ≡ true → nat_eq x.0 j ≡ true → true ≡ false
      never g h i = sym (nat_self x.0) ∙ (λ z. nat_eq x.0 ((nat_same x.0 j i ∙ sym (nat_same k j h)) z)) ∙ g

      by : item (without k xs) j ≡ (if nat_eq k j then None else item xs j) → (b : Bool) → nat_eq x.0 k ≡ b → (c : Bool) → nat_eq k j ≡ c → (e : Bool) → nat_eq x.0 j ≡ e
          → item (if b then xs else x ∷ without k xs) j ≡ (if c then None else (if nat_eq x.0 j then Some x.1 else item xs j))
      by r true g c h e i = first-out g c h
      by r false g true h true i = let n : true ≡ false = never g h i in cc
      by r false g true h false i = (λ z. if i z then Some x.1 else item (without k xs) j) ∙ r ∙ (λ z. if h z then None else item xs j)
      by r false g false h true i = (λ z. if i z then Some x.1 else item (without k xs) j) ∙ sym (λ z. if i z then Some x.1 else item xs j)
      by r false g false h false i = (λ z. if i z then Some x.1 else item (without k xs) j) ∙ r ∙ (λ z. if h z then None else item xs j) ∙ sym (λ z. if i z then Some x.1 else item xs j)

  still-distinct : (k : ℕ) (xs : List (ℕ × A)) → Distinct xs → Distinct (without k xs)
  still-distinct k [] d = tt
  still-distinct k (x ∷ xs) d = by (still-distinct k xs d.1) (nat_eq x.0 k)
    where
      none : (b : Bool) → (if b then None else item xs x.0) ≡ None
      none true = refl
      none false = d.0

      by : Distinct (without k xs) → (b : Bool) → Distinct (if b then xs else x ∷ without k xs)
      by r true = d.1
      by r false = (other-items k x.0 xs d.1 ∙ none (nat_eq k x.0), r)

  -- Lists in which the same is looked up are in other orders.
  pub same-items : (xs ys : List (ℕ × A)) → Distinct xs → Distinct ys → ((k : ℕ) → item xs k ≡ item ys k) → Swaps xs ys
  same-items [] [] d e f = no_items
  same-items (x ∷ xs) [] d e f = let n : Some x.1 ≡ None = sym (λ z. if nat_self x.0 z then Some x.1 else item xs x.0) ∙ f x.0 in cc
  same-items xs (y ∷ ys) d e f =
      and_then (out-first y.0 y.1 xs there) (later_items y (same-items (without y.0 xs) ys (still-distinct y.0 xs d) e.1 rest))
    where
      there : item xs y.0 ≡ Some y.1
      there = f y.0 ∙ (λ z. if nat_self y.0 z then Some y.1 else item ys y.0)

      rest : (k : ℕ) → item (without y.0 xs) k ≡ item ys k
      rest k = other-items y.0 k xs d ∙ by (nat_eq y.0 k) refl
        where
          by : (b : Bool) → nat_eq y.0 k ≡ b → (if b then None else item xs k) ≡ item ys k
          by true g = sym ((λ z. item ys (sym (nat_same y.0 k g) z)) ∙ e.0)
          by false g = f k ∙ (λ z. if g z then Some y.1 else item ys k)
