-- Tables of numbers that are made of one another lead where steps along them lead.
use Rattle.std.proofs.Common.{◌≡◌, ◌∙◌, ◌<◌, ◌≤◌, ◌+◌, ◌++◌, ℕ, zero, suc, List, [], ◌∷◌, map, length, inl, inr, sym, ap, arith}
use Rattle.std.specs.Prelude.{◌⊎◌}
use Rattle.std.proofs.lemmas.Bool.{cases_lt, cases_order}
use Rattle.std.proofs.lemmas.List.{get_or-map, get_or_append_left, get_or_past, get_or_push, length-map, length_push}
use Rattle.named_types.specs.Steps.{after_steps, number_at}

-- one more number by itself
pub own_more :
    (xs : List ℕ) (t : ℕ) → length xs ≡ t → ((i : ℕ) → number_at xs i ≡ i) → (i : ℕ) →
    number_at (xs ++ t ∷ []) i ≡ i
own_more xs t n own i = go (cases_order i t)
  where
    go : (i ≡ t) ⊎ ((i < t) ⊎ (t < i)) → number_at (xs ++ t ∷ []) i ≡ i
    go (inl e) = get_or_push xs t i i (n ∙ sym e) ∙ sym e
    go (inr (inl l)) = get_or_append_left xs (t ∷ []) i i (omega (arith, n, l)) ∙ own i
    go (inr (inr l)) = get_or_past (xs ++ t ∷ []) i i (omega (arith, n, l, length_push xs t))

-- what is done to each number is done to the one at a place
mapped :
    (f : ℕ → ℕ) (xs : List ℕ) → ((t : ℕ) → length xs ≤ t → f t ≡ t) → (t : ℕ) →
    number_at (map f xs) t ≡ f (number_at xs t)
mapped f xs past t = go (cases_lt t (length xs))
  where
    go : (t < length xs) ⊎ (length xs ≤ t) → number_at (map f xs) t ≡ f (number_at xs t)
    go (inl l) = get_or-map f xs t t t l
    go (inr h) =
        get_or_past (map f xs) t t (omega (arith, h, length-map xs f))
        ∙ sym (ap f (get_or_past xs t t h) ∙ past t h)

-- a step by one table and one by another
pub both_are :
    (first second : List ℕ) → length first ≡ length second → (numbers : List ℕ) →
    numbers ≡ map (number_at second) first → (t : ℕ) →
    number_at numbers t ≡ number_at second (number_at first t)
both_are first second n numbers e t =
    ap (λ xs. number_at xs t) e
    ∙ mapped (number_at second) first (λ u h. get_or_past second u u (omega (arith, n, h))) t

module _ (next : List ℕ) where
  -- so many steps and then so many
  steps_then :
      (j k n : ℕ) → n ≡ j + k → (t : ℕ) → after_steps n next t ≡ after_steps k next (after_steps j next t)
  steps_then zero k n e t = let q : n ≡ k = omega (arith, e) in ap (λ m. after_steps m next t) q
  steps_then (suc j) k zero e t = absurd (omega (arith, e))
  steps_then (suc j) k (suc n) e t = steps_then j k n (omega (arith, e)) (number_at next t)

  -- none
  pub no_steps :
      (numbers : List ℕ) (n : ℕ) → n ≡ 0 → ((t : ℕ) → number_at numbers t ≡ t) → (t : ℕ) →
      number_at numbers t ≡ after_steps n next t
  no_steps numbers n e own t = own t ∙ ap (λ k. after_steps k next t) (sym e)

  -- twice as many
  pub even_steps :
      (half even : List ℕ) (h n : ℕ) → n ≡ h + h → ((t : ℕ) → number_at half t ≡ after_steps h next t) →
      ((t : ℕ) → number_at even t ≡ number_at half (number_at half t)) → (t : ℕ) →
      number_at even t ≡ after_steps n next t
  even_steps half even h n e a b t =
      b t ∙ a (number_at half t) ∙ ap (after_steps h next) (a t) ∙ sym (steps_then h h n e t)

  -- and one more
  pub odd_steps :
      (even odd : List ℕ) (m n : ℕ) → n ≡ m + 1 → ((t : ℕ) → number_at even t ≡ after_steps m next t) →
      ((t : ℕ) → number_at odd t ≡ number_at even (number_at next t)) → (t : ℕ) →
      number_at odd t ≡ after_steps n next t
  odd_steps even odd m n e a b t =
      let q : n ≡ suc m = omega (arith, e) in
      b t ∙ a (number_at next t) ∙ ap (λ k. after_steps k next t) (sym q)
