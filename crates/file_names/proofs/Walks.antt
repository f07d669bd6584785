-- What a loop gathers from a list, item after item.
use Rattle.std.proofs.Common.{◌≡◌, ◌∙◌, ◌<◌, ◌≤◌, ◌+◌, ℕ, zero, suc, List, [], ◌∷◌, length, drop, ◌++◌, get_or, refl, sym, ap, subst, arith, append_assoc, append-nil}

-- behind the last there is nothing
pub nothing_left : {A : Type 0} (xs : List A) (i : ℕ) → length xs ≤ i → drop i xs ≡ []
nothing_left [] zero h = refl
nothing_left [] (suc i) h = refl
nothing_left (x ∷ xs) zero h = absurd (omega (arith, h))
nothing_left (x ∷ xs) (suc i) h = nothing_left xs i (omega (arith, h))

-- what comes one by one is joined by `op`
module _ {A B : Type 0} (op : B → B → B) where
  -- `f` makes of items, numbered from a number on, what `g` makes of the first, and what it makes of the others
  module _ (assoc : (a b c : B) → op (op a b) c ≡ op a (op b c)) (f : ℕ → List A → B) (g : ℕ → A → B) (next : (i : ℕ) (x : A) (xs : List A) → f i (x ∷ xs) ≡ op (g i x) (f (suc i) xs)) where
    here : (k : ℕ) (xs : List A) (i : ℕ) (x : A) → i < length xs → x ≡ get_or xs i x → f k (drop i xs) ≡ op (g k x) (f (suc k) (drop (suc i) xs))
    here k [] i x h e = absurd (omega (arith, h))
    here k (y ∷ ys) zero x h e = next k y ys ∙ ap (λ z. op (g k z) (f (suc k) ys)) (sym e)
    here k (y ∷ ys) (suc i) x h e = here k ys i x (omega (arith, h)) e

    -- one more item is gathered
    pub one_gathered :
        (xs : List A) (i : ℕ) (x : A) (was now all : B) → i < length xs → x ≡ get_or xs i x → now ≡ op was (g i x)
        → op was (f i (drop i xs)) ≡ all → op now (f (i + 1) (drop (i + 1) xs)) ≡ all
    one_gathered xs i x was now all h e n w =
        let one : suc i ≡ i + 1 = omega arith in
        ap (λ r. op r (f (i + 1) (drop (i + 1) xs))) n
        ∙ assoc was (g i x) (f (i + 1) (drop (i + 1) xs))
        ∙ ap (op was) (subst (λ j. op (g i x) (f j (drop j xs)) ≡ f i (drop i xs)) one (sym (here i xs i x h e)))
        ∙ w

  -- all items are gathered
  pub all_gathered :
      (none : B) → ((b : B) → op b none ≡ b) → (f : ℕ → List A → B) → ((i : ℕ) → f i [] ≡ none)
      → (xs : List A) (i : ℕ) (was all : B) → length xs ≤ i → op was (f i (drop i xs)) ≡ all → was ≡ all
  all_gathered none unit f empty xs i was all h w =
      sym (unit was) ∙ ap (op was) (sym (empty i)) ∙ ap (λ r. op was (f i r)) (sym (nothing_left xs i h)) ∙ w

-- ---- lists, one behind the other

pub one_listed :
    {A B : Type 0} (f : ℕ → List A → List B) (g : ℕ → A → List B) → ((i : ℕ) (x : A) (xs : List A) → f i (x ∷ xs) ≡ g i x ++ f (suc i) xs)
    → (xs : List A) (i : ℕ) (x : A) (was now all : List B) → i < length xs → x ≡ get_or xs i x → now ≡ was ++ g i x
    → was ++ f i (drop i xs) ≡ all → now ++ f (i + 1) (drop (i + 1) xs) ≡ all
one_listed f g next = one_gathered (λ a b. a ++ b) append_assoc f g next

pub all_listed :
    {A B : Type 0} (f : ℕ → List A → List B) → ((i : ℕ) → f i [] ≡ [])
    → (xs : List A) (i : ℕ) (was all : List B) → length xs ≤ i → was ++ f i (drop i xs) ≡ all → was ≡ all
all_listed f empty xs i was all h w = all_gathered (λ a b. a ++ b) [] append-nil f empty xs i was all h w
