-- Ways over the elements of a list, and how many of a list pass a test.
use Rattle.std.proofs.Common.{◌≡◌, ◌⊎◌, inl, inr, suc, ◌<◌, ◌≤◌, Bool, true, false, true≢false, ◌&&◌, ◌||◌, length, List, [], ◌∷◌, if◌then◌else◌, refl, sym, subst, ◌∙◌, arith}
use Rattle.literal_steps.specs.RankedMarks.Ranks.{leads_over, count}

pub or_left : (a b : Bool) → a ≡ true → (a || b) ≡ true
or_left true b h = refl
or_left false b h = cc

pub or_right : (a b : Bool) → b ≡ true → (a || b) ≡ true
or_right true b h = refl
or_right false b h = h

pub and_both : (a b : Bool) → a ≡ true → b ≡ true → (a && b) ≡ true
and_both true b h k = k
and_both false b h k = cc

pub either : (a b : Bool) → (a || b) ≡ true → (a ≡ true) ⊎ (b ≡ true)
either true b h = inl refl
either false b h = inr h

pub two : (a b : Bool) → (a && b) ≡ true → (a ≡ true) × (b ≡ true)
two true b h = (refl, h)
two false b h = cc

pub data Within {A : Type 0} (c : A) : List A → Type 0 where
  first_of : (cs : List A) → Within c (c ∷ cs)
  later_in : (d : A) (cs : List A) → Within c cs → Within c (d ∷ cs)

module _ {A : Type 0} (leads : A → A → Bool) where
  pub direct : (cs : List A) (a b : A) → leads a b ≡ true → leads_over leads cs a b ≡ true
  direct [] a b h = h
  direct (c ∷ cs) a b h = or_left (leads_over leads cs a b) (leads_over leads cs a c && leads_over leads cs c b) (direct cs a b h)

  -- a way to the first of the list, and from it, needs the others alone
  to_first : (c : A) (cs : List A) (a : A) → leads_over leads (c ∷ cs) a c ≡ true → leads_over leads cs a c ≡ true
  to_first c cs a h = by (either (leads_over leads cs a c) (leads_over leads cs a c && leads_over leads cs c c) h)
    where
      by : (leads_over leads cs a c ≡ true) ⊎ ((leads_over leads cs a c && leads_over leads cs c c) ≡ true) → leads_over leads cs a c ≡ true
      by (inl k) = k
      by (inr k) = (two (leads_over leads cs a c) (leads_over leads cs c c) k).0

  from_first : (c : A) (cs : List A) (b : A) → leads_over leads (c ∷ cs) c b ≡ true → leads_over leads cs c b ≡ true
  from_first c cs b h = by (either (leads_over leads cs c b) (leads_over leads cs c c && leads_over leads cs c b) h)
    where
      by : (leads_over leads cs c b ≡ true) ⊎ ((leads_over leads cs c c && leads_over leads cs c b) ≡ true) → leads_over leads cs c b ≡ true
      by (inl k) = k
      by (inr k) = (two (leads_over leads cs c c) (leads_over leads cs c b) k).1

  -- ways that meet at one of the list are one way
  pub joined : (cs : List A) (a d b : A) → Within d cs → leads_over leads cs a d ≡ true → leads_over leads cs d b ≡ true → leads_over leads cs a b ≡ true
  joined [] a d b i h k = elim i [ ]
  joined (_ ∷ cs) a d b (first_of _) h k =
      or_right (leads_over leads cs a b) (leads_over leads cs a d && leads_over leads cs d b) (and_both (leads_over leads cs a d) (leads_over leads cs d b) (to_first d cs a h) (from_first d cs b k))
  joined (c ∷ cs) a d b (later_in _ _ i) h k =
      by (either (leads_over leads cs a d) (leads_over leads cs a c && leads_over leads cs c d) h) (either (leads_over leads cs d b) (leads_over leads cs d c && leads_over leads cs c b) k)
      (λ x y. joined cs a d b i x y) (λ x y. joined cs a d c i x y) (λ x y. joined cs c d b i x y)
    where
      through : leads_over leads cs a c ≡ true → leads_over leads cs c b ≡ true → leads_over leads (c ∷ cs) a b ≡ true
      through x y = or_right (leads_over leads cs a b) (leads_over leads cs a c && leads_over leads cs c b) (and_both (leads_over leads cs a c) (leads_over leads cs c b) x y)

      by : (leads_over leads cs a d ≡ true) ⊎ ((leads_over leads cs a c && leads_over leads cs c d) ≡ true) → (leads_over leads cs d b ≡ true) ⊎ ((leads_over leads cs d c && leads_over leads cs c b) ≡ true)
          → (leads_over leads cs a d ≡ true → leads_over leads cs d b ≡ true → leads_over leads cs a b ≡ true)
          → (leads_over leads cs a d ≡ true → leads_over leads cs d c ≡ true → leads_over leads cs a c ≡ true)
          → (leads_over leads cs c d ≡ true → leads_over leads cs d b ≡ true → leads_over leads cs c b ≡ true) → leads_over leads (c ∷ cs) a b ≡ true
      by (inl x) (inl y) f g j = or_left (leads_over leads cs a b) (leads_over leads cs a c && leads_over leads cs c b) (f x y)
      by (inl x) (inr y) f g j = let q = two (leads_over leads cs d c) (leads_over leads cs c b) y in through (g x q.0) q.1
      by (inr x) (inl y) f g j = let p = two (leads_over leads cs a c) (leads_over leads cs c d) x in through p.0 (j p.1 y)
      by (inr x) (inr y) f g j = through (two (leads_over leads cs a c) (leads_over leads cs c d) x).0 (two (leads_over leads cs d c) (leads_over leads cs c b) y).1

-- ---- how many pass

module _ {A : Type 0} (p q : A → Bool) where
  pub count_most : (xs : List A) → count p xs ≤ length xs
  count_most [] = omega arith
  count_most (x ∷ xs) = by (p x) (count_most xs)
    where
      by : (b : Bool) → count p xs ≤ length xs → (if b then suc (count p xs) else count p xs) ≤ suc (length xs)
      by true h = omega (arith, h)
      by false h = omega (arith, h)

  pub count_fewer : (x : A) → p x ≡ false → (xs : List A) → Within x xs → count p xs < length xs
  count_fewer x e [] i = elim i [ ]
  count_fewer x e (_ ∷ xs) (first_of _) = subst (λ b. (if b then suc (count p xs) else count p xs) < suc (length xs)) (sym e) (let h : count p xs ≤ length xs = count_most xs in omega (arith, h))
  count_fewer x e (y ∷ xs) (later_in _ _ i) = by (p y) (count_fewer x e xs i)
    where
      by : (b : Bool) → count p xs < length xs → (if b then suc (count p xs) else count p xs) < suc (length xs)
      by true h = omega (arith, h)
      by false h = omega (arith, h)

  module _ (implies : (x : A) → p x ≡ true → q x ≡ true) where
    count_less : (xs : List A) → count p xs ≤ count q xs
    count_less [] = omega arith
    count_less (x ∷ xs) = by (p x) refl (q x) refl (count_less xs)
      where
        by : (b : Bool) → p x ≡ b → (c : Bool) → q x ≡ c → count p xs ≤ count q xs → (if b then suc (count p xs) else count p xs) ≤ (if c then suc (count q xs) else count q xs)
        by true e true f h = omega (arith, h)
        by true e false f h = absurd (true≢false (sym (implies x e) ∙ f))
        by false e true f h = omega (arith, h)
        by false e false f h = h

    pub count_drops : (x : A) → p x ≡ false → q x ≡ true → (xs : List A) → Within x xs → count p xs < count q xs
    count_drops x e f [] i = elim i [ ]
    count_drops x e f (_ ∷ xs) (first_of _) =
        subst (λ b. (if b then suc (count p xs) else count p xs) < (if q x then suc (count q xs) else count q xs)) (sym e)
        (subst (λ b. count p xs < (if b then suc (count q xs) else count q xs)) (sym f) (let h : count p xs ≤ count q xs = count_less xs in omega (arith, h)))
    count_drops x e f (y ∷ xs) (later_in _ _ i) = by (p y) refl (q y) refl (count_drops x e f xs i)
      where
        by : (b : Bool) → p y ≡ b → (c : Bool) → q y ≡ c → count p xs < count q xs → (if b then suc (count p xs) else count p xs) < (if c then suc (count q xs) else count q xs)
        by true g true k h = omega (arith, h)
        by true g false k h = absurd (true≢false (sym (implies y g) ∙ k))
        by false g true k h = omega (arith, h)
        by false g false k h = h
