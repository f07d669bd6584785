-- Spans that ascend from one place to another.
use Rattle.std.proofs.Common.{◌≡◌, ◌<◌, ◌≤◌, ◌⊎◌, inl, inr, ℕ, Bool, true, false, ◌&&◌, nat_lt}
use Rattle.std.proofs.Common.{List, [], ◌∷◌, ◌++◌, refl, arith}
use Rattle.std.specs.List.{list_all}
use Rattle.std.proofs.lemmas.Bool.Decides.{nat_tests}
use Rattle.go_tree.specs.declared.spans.Span.{Span}
use Rattle.expression_spans.specs.Order.{is_before, ascends, lies_in}

-- one is before another
abbrev pub Up : Span → Span → Type 0
Up s t = (s.end < t.end) ⊎ ((s.end ≡ t.end) × (t.start < s.start))

-- or it is no further than another
abbrev pub Upto : Span → Span → Type 0
Upto s t = (s.end < t.end) ⊎ ((s.end ≡ t.end) × (t.start ≤ s.start))

-- the last of the spans that end by a place
abbrev pub place : ℕ → Span
place n = record { start = 0; end = n }

-- spans that ascend behind one place, up to another
abbrev pub Ascent : Span → List Span → Span → Type 0
Ascent p [] q = Upto p q
Ascent p (s ∷ ss) q = Up p s × Ascent s ss q

-- each has a byte, and begins at a place or behind it
abbrev pub Inside : ℕ → List Span → Type 0
Inside lo [] = Unit {0}
Inside lo (s ∷ ss) = (lo ≤ s.start) × (s.start < s.end) × Inside lo ss

-- both
pub record Stand (lo : ℕ) (xs : List Span) (q : Span) : Type 0 where
  pub inside : Inside lo xs
  pub ascent : Ascent (place lo) xs q

-- ---- places

upto-up : (a b c : Span) → Upto a b → Up b c → Up a c
upto-up a b c (inl p) (inl q) = inl (omega (arith, p, q))
upto-up a b c (inl p) (inr q) = let e = q.0 in inl (omega (arith, p, e))
upto-up a b c (inr p) (inl q) = let e = p.0 in inl (omega (arith, e, q))
upto-up a b c (inr p) (inr q) =
    let d = p.0 in let e = q.0 in let x = p.1 in let y = q.1 in inr (omega (arith, d, e), omega (arith, x, y))

upto-upto : (a b c : Span) → Upto a b → Upto b c → Upto a c
upto-upto a b c (inl p) (inl q) = inl (omega (arith, p, q))
upto-upto a b c (inl p) (inr q) = let e = q.0 in inl (omega (arith, p, e))
upto-upto a b c (inr p) (inl q) = let e = p.0 in inl (omega (arith, e, q))
upto-upto a b c (inr p) (inr q) =
    let d = p.0 in let e = q.0 in let x = p.1 in let y = q.1 in inr (omega (arith, d, e), omega (arith, x, y))

up-upto : (a b : Span) → Up a b → Upto a b
up-upto a b (inl p) = inl p
up-upto a b (inr p) = let x = p.1 in inr (p.0, omega (arith, x))

upto-end : (a b : Span) → Upto a b → a.end ≤ b.end
upto-end a b (inl p) = omega (arith, p)
upto-end a b (inr p) = let e = p.0 in omega (arith, e)

less-or-same : (a b : ℕ) → a ≤ b → (a < b) ⊎ (a ≡ b)
less-or-same a b h = by (nat_lt a b) refl
  where
    by : (t : Bool) → nat_lt a b ≡ t → (a < b) ⊎ (a ≡ b)
    by true e = inl (grind (arith, nat_tests, e))
    by false e = inr (grind (arith, nat_tests, e, h))

-- what ends by a place is no further than the place
upto-place : (s : Span) (n : ℕ) → s.end ≤ n → Upto s (place n)
upto-place s n h = by (less-or-same s.end n h)
  where
    by : (s.end < n) ⊎ (s.end ≡ n) → Upto s (place n)
    by (inl p) = inl p
    by (inr p) = inr (p, omega arith)

-- ---- ascents

sooner : (p a q : Span) (xs : List Span) → Upto p a → Ascent a xs q → Ascent p xs q
sooner p a q [] h k = upto-upto p a q h k
sooner p a q (s ∷ ss) h k = (upto-up p a s h k.0, k.1)

later : (p q b : Span) (xs : List Span) → Ascent p xs q → Upto q b → Ascent p xs b
later p q b [] k h = upto-upto p q b k h
later p q b (s ∷ ss) k h = (k.0, later s q b ss k.1 h)

reach : (p q : Span) (xs : List Span) → Ascent p xs q → Upto p q
reach p q [] k = k
reach p q (s ∷ ss) k = upto-upto p s q (up-upto p s k.0) (reach s q ss k.1)

join : (p a q : Span) (xs ys : List Span) → Ascent p xs a → Ascent a ys q → Ascent p (xs ++ ys) q
join p a q [] ys h k = sooner p a q ys h k
join p a q (s ∷ ss) ys h k = (h.0, join s a q ss ys h.1 k)

inside-lower : (lo n : ℕ) (xs : List Span) → lo ≤ n → Inside n xs → Inside lo xs
inside-lower lo n [] h k = tt
inside-lower lo n (s ∷ ss) h k = let b = k.0 in (omega (arith, h, b), k.1, inside-lower lo n ss h k.2)

inside-both : (lo : ℕ) (xs ys : List Span) → Inside lo xs → Inside lo ys → Inside lo (xs ++ ys)
inside-both lo [] ys h k = k
inside-both lo (s ∷ ss) ys h k = (h.0, h.1, inside-both lo ss ys h.2 k)

-- ---- spans that stand so

-- none
pub empty : {lo hi : ℕ} → lo ≤ hi → Stand lo [] (place hi)
empty {lo} {hi} h = record { inside = tt; ascent = upto-place (place lo) hi h }

-- some, and others behind them
pub both : {lo m n : ℕ} {xs ys : List Span} {q : Span} → m ≤ n → Stand lo xs (place m) → Stand n ys q →
    Stand lo (xs ++ ys) q
both {lo} {m} {n} {xs} {ys} {q} le a b =
    let up : lo ≤ m = upto-end (place lo) (place m) (reach (place lo) (place m) xs a.ascent) in
    record {
      inside = inside-both lo xs ys a.inside (inside-lower lo n ys (omega (arith, up, le)) b.inside);
      ascent = join (place lo) (place m) q xs ys a.ascent
          (sooner (place m) (place n) q ys (upto-place (place m) n le) b.ascent);
    }

-- from an earlier place on
pub lower : {lo n : ℕ} {xs : List Span} {q : Span} → lo ≤ n → Stand n xs q → Stand lo xs q
lower {lo} {n} {xs} {q} h a =
    record {
      inside = inside-lower lo n xs h a.inside;
      ascent = sooner (place lo) (place n) q xs (upto-place (place lo) n h) a.ascent;
    }

-- up to a later place
pub further : {lo : ℕ} {xs : List Span} {q b : Span} → Upto q b → Stand lo xs q → Stand lo xs b
further {lo} {xs} {q} {b} h a = record { inside = a.inside; ascent = later (place lo) q b xs a.ascent h }

-- up to where it ends, or later
pub past : {lo n : ℕ} {xs : List Span} {q : Span} → q.end ≤ n → Stand lo xs q → Stand lo xs (place n)
past {lo} {n} {xs} {q} h a = further {b = place n} (upto-place q n h) a

-- and one more behind them
pub own : {lo : ℕ} {xs : List Span} {q : Span} (s : Span) → Up q s → lo ≤ s.start → s.start < s.end → Stand lo xs q →
    Stand lo (xs ++ s ∷ []) s
own {lo} {xs} {q} s up le byte a =
    record {
      inside = inside-both lo xs (s ∷ []) a.inside (le, byte, tt);
      ascent = join (place lo) q s xs (s ∷ []) a.ascent (up, inr (refl, omega arith));
    }

-- they end behind where they begin
pub stand-up : {lo : ℕ} {xs : List Span} {q : Span} → Stand lo xs q → lo ≤ q.end
stand-up {lo} {xs} {q} a = upto-end (place lo) q (reach (place lo) q xs a.ascent)

-- ---- as tests

pub and_intro : (a b : Bool) → a ≡ true → b ≡ true → (a && b) ≡ true
and_intro true true p q = refl
and_intro true false p q = q
and_intro false b p q = p

before : (s t : Span) → Up s t → is_before s t ≡ true
before s t (inl p) = grind (arith, nat_tests, p)
before s t (inr p) = let e = p.0 in let x = p.1 in grind (arith, nat_tests, e, x)

before-all : (p q : Span) (xs : List Span) → Ascent p xs q → list_all (is_before p) xs ≡ true
before-all p q [] k = refl
before-all p q (s ∷ ss) k =
    and_intro (is_before p s) (list_all (is_before p) ss) (before p s k.0)
    (before-all p q ss (sooner p s q ss (up-upto p s k.0) k.1))

pub ascends-so : (p q : Span) (xs : List Span) → Ascent p xs q → ascends xs ≡ true
ascends-so p q [] k = refl
ascends-so p q (s ∷ ss) k =
    and_intro (list_all (is_before s) ss) (ascends ss) (before-all s q ss k.1) (ascends-so s q ss k.1)

lies : (w s : Span) → w.start ≤ s.start → s.start < s.end → s.end ≤ w.end → lies_in w s ≡ true
lies w s a b c = grind (arith, nat_tests, a, b, c)

lie-all : (w p q : Span) (xs : List Span) → q.end ≤ w.end → Inside w.start xs → Ascent p xs q →
    list_all (lies_in w) xs ≡ true
lie-all w p q [] h i k = refl
lie-all w p q (s ∷ ss) h i k =
    let up : s.end ≤ q.end = upto-end s q (reach s q ss k.1) in
    and_intro (lies_in w s) (list_all (lies_in w) ss) (lies w s i.0 i.1 (omega (arith, up, h)))
    (lie-all w s q ss h i.2 k.1)

pub lie-so : (w : Span) (xs : List Span) → Stand w.start xs (place w.end) → list_all (lies_in w) xs ≡ true
lie-so w xs a = lie-all w (place w.start) (place w.end) xs (omega arith) a.inside a.ascent
