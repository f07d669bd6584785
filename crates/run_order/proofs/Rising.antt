-- Lists of spans, each with what is used there, whose ends ascend but where some are listed again.
use Rattle.std.proofs.Common.{◌≡◌, refl, sym, subst, ◌<◌, ◌≤◌, ℕ, ◌⊎◌, inl, inr, ⊎_elim, List, [], ◌∷◌, ◌++◌, arith}
use Rattle.go_tree.specs.declared.spans.Span.{Span}
use Rattle.run_rules.specs.Sites.{MarkRef}
use Rattle.run_order.proofs.EndPlaces.{Ends}

-- a span, and what is used there
abbrev pub Key : Type 0
Key = Span × MarkRef

abbrev pub IsOne : Key → List Key → Type 0
IsOne k [] = ⊥
IsOne k (j ∷ js) = (k ≡ j) ⊎ IsOne k js

abbrev pub EndsBehind : Key → List Key → Type 0
EndsBehind k [] = Unit {0}
EndsBehind k (j ∷ js) = (j.0.end < k.0.end) × EndsBehind k js

-- each ends behind those before it, or is one of them
abbrev pub Rising : List Key → List Key → Type 0
Rising before [] = Unit {0}
Rising before (k ∷ ks) = (EndsBehind k before ⊎ IsOne k before) × Rising (k ∷ before) ks

abbrev AllEnd : ℕ → ℕ → List Key → Type 0
AllEnd lo hi [] = Unit {0}
AllEnd lo hi (k ∷ ks) = Ends lo hi k.0 × AllEnd lo hi ks

-- all end between these places, and rise
pub record InOrder (lo hi : ℕ) (ks : List Key) : Type 0 where
  pub all : AllEnd lo hi ks
  pub up : Rising [] ks

-- ---- one of a list

behind-of-all : (k : Key) (js : List Key) → ((j : Key) → IsOne j js → j.0.end < k.0.end) → EndsBehind k js
behind-of-all k [] f = tt
behind-of-all k (j ∷ js) f = (f j (inl refl), behind-of-all k js (λ i h. f i (inr h)))

behind-each : (k j : Key) (js : List Key) → EndsBehind k js → IsOne j js → j.0.end < k.0.end
behind-each k j [] h o = elim o [ ]
behind-each k j (i ∷ js) h (inl e) = subst (λ (z : Key). z.0.end < k.0.end) (sym e) h.0
behind-each k j (i ∷ js) h (inr o) = behind-each k j js h.1 o

-- ---- other lists before

-- the same before
same-more : (b c : List Key) (k : Key) → ((j : Key) → IsOne j b → IsOne j c) → (j : Key) → IsOne j (k ∷ b)
    → IsOne j (k ∷ c)
same-more b c k f j (inl e) = inl e
same-more b c k f j (inr o) = inr (f j o)

rising-same : (b c ks : List Key) → ((j : Key) → IsOne j b → IsOne j c) → ((j : Key) → IsOne j c → IsOne j b)
    → Rising b ks → Rising c ks
rising-same b c [] f g r = tt
rising-same b c (k ∷ ks) f g r = (by r.0, rising-same (k ∷ b) (k ∷ c) ks (same-more b c k f) (same-more c b k g) r.1)
  where
    by : EndsBehind k b ⊎ IsOne k b → EndsBehind k c ⊎ IsOne k c
    by (inl e) = inl (behind-of-all k c (λ j o. behind-each k j b e (g j o)))
    by (inr o) = inr (f k o)

-- more before, which all end by a place
one-both : (j : Key) (b c : List Key) → IsOne j (b ++ c) → IsOne j b ⊎ IsOne j c
one-both j [] c o = inr o
one-both j (i ∷ b) c (inl e) = inl (inl e)
one-both j (i ∷ b) c (inr o) = ⊎_elim (λ x. inl (inr x)) (λ y. inr y) (one-both j b c o)

one-first : (j : Key) (b c : List Key) → IsOne j b → IsOne j (b ++ c)
one-first j [] c o = elim o [ ]
one-first j (i ∷ b) c (inl e) = inl e
one-first j (i ∷ b) c (inr o) = inr (one-first j b c o)

AllBy : ℕ → List Key → Type 0
AllBy m c = (j : Key) → IsOne j c → j.0.end ≤ m

rising-behind : (m hi : ℕ) (b c ks : List Key) → ((j : Key) → IsOne j c → j.0.end ≤ m) → AllEnd m hi ks → Rising b ks
    → Rising (b ++ c) ks
rising-behind m hi b c [] f a r = tt
rising-behind m hi b c (k ∷ ks) f a r = (by r.0, rising-behind m hi (k ∷ b) c ks f a.1 r.1)
  where
    later : IsOne k c → k.0.end ≤ m
    later o = f k o

    each : EndsBehind k b → (j : Key) → IsOne j b ⊎ IsOne j c → j.0.end < k.0.end
    each e j (inl o) = behind-each k j b e o
    each e j (inr o) = let x = f j o in let y : m < k.0.end = a.0.0 in omega (arith, x, y)

    by : EndsBehind k b ⊎ IsOne k b → EndsBehind k (b ++ c) ⊎ IsOne k (b ++ c)
    by (inl e) = inl (behind-of-all k (b ++ c) (λ j o. each e j (one-both j b c o)))
    by (inr o) = inr (one-first k b c o)

-- ---- one list behind another

-- those before others, the last first
abbrev onto : List Key → List Key → List Key
onto [] b = b
onto (k ∷ ks) b = onto ks (k ∷ b)

rising-both : (b xs ys : List Key) → Rising b xs → Rising (onto xs b) ys → Rising b (xs ++ ys)
rising-both b [] ys r q = q
rising-both b (x ∷ xs) ys r q = (r.0, rising-both (x ∷ b) xs ys r.1 q)

rising-first : (b xs ys : List Key) → Rising b (xs ++ ys) → Rising b xs
rising-first b [] ys r = tt
rising-first b (x ∷ xs) ys r = (r.0, rising-first (x ∷ b) xs ys r.1)

rising-second : (b xs ys : List Key) → Rising b (xs ++ ys) → Rising (onto xs b) ys
rising-second b [] ys r = r
rising-second b (x ∷ xs) ys r = rising-second (x ∷ b) xs ys r.1

all-both : (lo hi : ℕ) (xs ys : List Key) → AllEnd lo hi xs → AllEnd lo hi ys → AllEnd lo hi (xs ++ ys)
all-both lo hi [] ys a c = c
all-both lo hi (x ∷ xs) ys a c = (a.0, all-both lo hi xs ys a.1 c)

all-first : (lo hi : ℕ) (xs ys : List Key) → AllEnd lo hi (xs ++ ys) → AllEnd lo hi xs
all-first lo hi [] ys a = tt
all-first lo hi (x ∷ xs) ys a = (a.0, all-first lo hi xs ys a.1)

ends-wider : (lo a b hi : ℕ) (s : Span) → lo ≤ a → b ≤ hi → Ends a b s → Ends lo hi s
ends-wider lo a b hi s x y h = (omega (arith, x, h.0), omega (arith, y, h.1))

all-wider : (lo a b hi : ℕ) (ks : List Key) → lo ≤ a → b ≤ hi → AllEnd a b ks → AllEnd lo hi ks
all-wider lo a b hi [] x y h = tt
all-wider lo a b hi (k ∷ ks) x y h = (ends-wider lo a b hi k.0 x y h.0, all-wider lo a b hi ks x y h.1)

onto-by : (lo m : ℕ) (xs b : List Key) → AllEnd lo m xs → ((j : Key) → IsOne j b → j.0.end ≤ m) → (j : Key)
    → IsOne j (onto xs b) → j.0.end ≤ m
onto-by lo m [] b a f = f
onto-by lo m (x ∷ xs) b a f = onto-by lo m xs (x ∷ b) a.1 (λ j o. now j o)
  where
    now : (j : Key) → IsOne j (x ∷ b) → j.0.end ≤ m
    now j (inl e) = subst (λ (z : Key). z.0.end ≤ m) (sym e) a.0.1
    now j (inr o) = f j o

-- ---- lists in order

pub none-there : {lo hi : ℕ} → InOrder lo hi []
none-there = record { all = tt; up = tt }

pub one-there : {lo hi : ℕ} (k : Key) → Ends lo hi k.0 → InOrder lo hi (k ∷ [])
one-there k h = record { all = (h, tt); up = (inl tt, tt) }

pub order-wider : {lo a b hi : ℕ} (ks : List Key) → lo ≤ a → b ≤ hi → InOrder a b ks → InOrder lo hi ks
order-wider {lo = lo} {a = a} {b = b} {hi = hi} ks x y h = record { all = all-wider lo a b hi ks x y h.all; up = h.up }

pub order-both : {lo m k hi : ℕ} (xs ys : List Key) → lo ≤ k → m ≤ hi → m ≤ k → InOrder lo m xs → InOrder k hi ys
    → InOrder lo hi (xs ++ ys)
order-both {lo = lo} {m = m} {k = k} {hi = hi} xs ys x y z p q =
    record {
      all = all-both lo hi xs ys (all-wider lo lo m hi xs (omega arith) y p.all) (all-wider lo k hi hi ys x (omega arith) q.all);
      up = rising-both [] xs ys p.up (rising-behind k hi [] (onto xs []) ys (λ j o. below j (onto-by lo m xs [] p.all (λ i e. elim e [ ]) j o)) q.all q.up);
    }
  where
    below : (j : Key) → j.0.end ≤ m → j.0.end ≤ k
    below j l = omega (arith, l, z)

-- ---- a list that is listed again

onto-keeps : (xs b : List Key) (j : Key) → IsOne j b → IsOne j (onto xs b)
onto-keeps [] b j o = o
onto-keeps (x ∷ xs) b j o = onto-keeps xs (x ∷ b) j (inr o)

onto-has : (xs b : List Key) (j : Key) → IsOne j xs → IsOne j (onto xs b)
onto-has [] b j o = elim o [ ]
onto-has (x ∷ xs) b j (inl e) = onto-keeps xs (x ∷ b) j (inl e)
onto-has (x ∷ xs) b j (inr o) = onto-has xs (x ∷ b) j o

-- what is before may be listed again
rising-again : (b ps zs : List Key) → ((j : Key) → IsOne j ps → IsOne j b) → Rising b zs → Rising b (ps ++ zs)
rising-again b [] zs f r = r
rising-again b (p ∷ ps) zs f r = (inr (f p (inl refl)), rising-again (p ∷ b) ps zs (λ j o. inr (f j (inr o))) (rising-same b (p ∷ b) zs (λ j o. inr o) (λ j o. was j o) r))
  where
    was : (j : Key) → IsOne j (p ∷ b) → IsOne j b
    was j (inl e) = subst (λ (z : Key). IsOne z b) (sym e) (f p (inl refl))
    was j (inr o) = o

pub order-again : {lo hi : ℕ} (xs zs : List Key) → InOrder lo hi (xs ++ zs) → InOrder lo hi (xs ++ (xs ++ zs))
order-again {lo = lo} {hi = hi} xs zs h = record {
  all = all-both lo hi xs (xs ++ zs) (all-first lo hi xs zs h.all) h.all;
  up = rising-both [] xs (xs ++ zs) (rising-first [] xs zs h.up) (rising-again (onto xs []) xs zs (onto-has xs []) (rising-second [] xs zs h.up));
}
