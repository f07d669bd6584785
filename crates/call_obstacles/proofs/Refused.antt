-- The first of a list for which there is an answer, one after another.
use Rattle.std.proofs.Common.{◌≡◌, ◌∙◌, ◌<◌, ◌≤◌, ◌+◌, ℕ, zero, suc, List, [], ◌∷◌, length, drop, get_or, Option, Some, None, refl, sym, ap, drop-cons, arith}
use Rattle.go_tree.specs.GoTypes.Answers.{one_of}
use Rattle.run_rules.specs.Obstacles.{first_answer}

module _ {A B : Type 0} (f : A → Option B) where
  next : (xs : List A) (i : ℕ) (z x : A) → i < length xs → x ≡ get_or xs i z → first_answer f (drop i xs) ≡ one_of (f x) (first_answer f (drop (suc i) xs))
  next xs i z x h e = ap (first_answer f) (drop-cons xs i z h ∙ ap (λ (z : A). z ∷ drop (suc i) xs) (sym e))

  -- there is none for this one
  pub none_here : (xs : List A) (i : ℕ) (z x : A) (all : Option B) → i < length xs → x ≡ get_or xs i z → f x ≡ None → first_answer f (drop i xs) ≡ all → first_answer f (drop (i + 1) xs) ≡ all
  none_here xs i z x all h e n w =
      let on : i + 1 ≡ suc i = omega arith in
      ap (λ (j : ℕ). first_answer f (drop j xs)) on ∙ sym (next xs i z x h e ∙ ap (λ (o : Option B). one_of o (first_answer f (drop (suc i) xs))) n) ∙ w

  -- there is one for this one
  pub one_here : (xs : List A) (i : ℕ) (z x : A) (y : B) (all : Option B) → i < length xs → x ≡ get_or xs i z → f x ≡ Some y → first_answer f (drop i xs) ≡ all → Some y ≡ all
  one_here xs i z x y all h e n w = sym (next xs i z x h e ∙ ap (λ (o : Option B). one_of o (first_answer f (drop (suc i) xs))) n) ∙ w

  none_left : (xs : List A) (i : ℕ) → length xs ≤ i → drop i xs ≡ []
  none_left [] zero h = refl
  none_left [] (suc i) h = refl
  none_left (x ∷ xs) zero h = absurd (omega (arith, h))
  none_left (x ∷ xs) (suc i) h = none_left xs i (omega (arith, h))

  -- there is none for any
  pub none_at_all : (xs : List A) (i : ℕ) (all : Option B) → length xs ≤ i → first_answer f (drop i xs) ≡ all → None ≡ all
  none_at_all xs i all h w = sym (ap (first_answer f) (none_left xs i h)) ∙ w
