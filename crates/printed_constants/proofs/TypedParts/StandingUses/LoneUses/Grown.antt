-- Lists of parts no two names among which have one span, as they grow.
use Rattle.std.proofs.Common.{◌≡◌, ◌∙◌, ◌<◌, ◌≤◌, ℕ, List, [], ◌∷◌, ◌++◌, Option, Some, None, refl, sym, ap, subst, arith}
use Rattle.std.proofs.lemmas.List.{append-nil, append_assoc}
use Rattle.go_tree.specs.declared.spans.Span.{Span}
use Rattle.order_runs.proofs.RunSteps.TokenPlaces.{lt-le, le-le}
use Rattle.order_runs.proofs.RunSteps.SpanPlaces.{Fits, One, Two}
use Rattle.member_uses.specs.PossibleUses.Candidates.{Candidate}
use Rattle.member_uses.specs.PossibleUses.Parts.{put}
use Rattle.printed_constants.specs.TypedParts.StandingUses.LoneUses.Alone.{span_named, IsElsewhere, AreElsewhere}

abbrev pub C : Type 0
C = Candidate Span

abbrev pub at : C → Option Span
at c = span_named c.part

-- what is so of a name's span is so of a part
abbrev pub Of : (Span → Type 0) → Option Span → Type 0
Of P None = Unit {0}
Of P (Some s) = P s

abbrev pub All : (Span → Type 0) → List C → Type 0
All P [] = Unit {0}
All P (c ∷ cs) = Of P (at c) × All P cs

abbrev pub Alone : Option Span → List C → Type 0
Alone None cs = Unit {0}
Alone (Some s) cs = AreElsewhere s cs

abbrev pub Apart : List C → Type 0
Apart [] = Unit {0}
Apart (c ∷ cs) = Alone (at c) cs × Apart cs

-- there are no names
abbrev pub NoNames : List C → Type 0
NoNames [] = Unit {0}
NoNames (c ∷ cs) = (at c ≡ None) × NoNames cs

-- ---- of lists

of_more : {P Q : Span → Type 0} → ((s : Span) → P s → Q s) → (o : Option Span) → Of P o → Of Q o
of_more f None h = tt
of_more f (Some s) h = f s h

pub all_more : {P Q : Span → Type 0} → ((s : Span) → P s → Q s) → (cs : List C) → All P cs → All Q cs
all_more f [] h = tt
all_more f (c ∷ cs) h = (of_more f (at c) h.0, all_more f cs h.1)

pub all_both : (P : Span → Type 0) (xs ys : List C) → All P xs → All P ys → All P (xs ++ ys)
all_both P [] ys h k = k
all_both P (x ∷ xs) ys h k = (h.0, all_both P xs ys h.1 k)

pub none_all : (P : Span → Type 0) (xs : List C) → NoNames xs → All P xs
none_all P [] h = tt
none_all P (x ∷ xs) h = (subst (Of P) (sym h.0) tt, none_all P xs h.1)

pub none_both : (xs ys : List C) → NoNames xs → NoNames ys → NoNames (xs ++ ys)
none_both [] ys h k = k
none_both (x ∷ xs) ys h k = (h.0, none_both xs ys h.1 k)

pub else_both : (z : Span) (xs ys : List C) → AreElsewhere z xs → AreElsewhere z ys → AreElsewhere z (xs ++ ys)
else_both z [] ys h k = k
else_both z (x ∷ xs) ys h k = (h.0, else_both z xs ys h.1 k)

pub all_else : {P : Span → Type 0} (z : Span) → ((s : Span) → P s → z ≡ s → ⊥) → (xs : List C) → All P xs → AreElsewhere z xs
all_else z f [] h = tt
all_else {P = P} z f (x ∷ xs) h = (one (at x) h.0, all_else z f xs h.1)
  where
    one : (o : Option Span) → Of P o → IsElsewhere z o
    one None h = tt
    one (Some s) h = f s h

starts_later : (z : Span) (lo hi : ℕ) → z.start < lo → (s : Span) → Fits lo hi s → z ≡ s → ⊥
starts_later z lo hi h s k same = let e : z.start ≡ s.start = ap (λ (v : Span). v.start) same in omega (arith, h, k.0, e)

ends_before : (z : Span) (lo hi : ℕ) → hi < z.end → (s : Span) → Fits lo hi s → z ≡ s → ⊥
ends_before z lo hi h s k same = let e : z.end ≡ s.end = ap (λ (v : Span). v.end) same in omega (arith, h, k.2, e)

apart_both : (lo m k hi : ℕ) (xs ys : List C) → m ≤ k → All (Fits lo m) xs → All (Fits k hi) ys → Apart xs → Apart ys → Apart (xs ++ ys)
apart_both lo m k hi [] ys le h j a b = b
apart_both lo m k hi (x ∷ xs) ys le h j a b = (one (at x) h.0 a.0, apart_both lo m k hi xs ys le h.1 j a.1 b)
  where
    one : (o : Option Span) → Of (Fits lo m) o → Alone o xs → Alone o (xs ++ ys)
    one None f a = tt
    one (Some s) f a = else_both s xs ys a (all_else s (starts_later s k hi (lt-le f.1 le)) ys j)

apart_none : (xs ys : List C) → NoNames xs → Apart ys → Apart (xs ++ ys)
apart_none [] ys h a = a
apart_none (x ∷ xs) ys h a = (subst (λ (o : Option Span). Alone o (xs ++ ys)) (sym h.0) tt, apart_none xs ys h.1 a)

none_else : (z : Span) (xs : List C) → NoNames xs → AreElsewhere z xs
none_else z [] h = tt
none_else z (x ∷ xs) h = (subst (IsElsewhere z) (sym h.0) tt, none_else z xs h.1)

none_apart : (xs : List C) → NoNames xs → Apart xs
none_apart [] h = tt
none_apart (x ∷ xs) h = (subst (λ (o : Option Span). Alone o xs) (sym h.0) tt, none_apart xs h.1)

apart_behind : (xs ys : List C) → Apart xs → NoNames ys → Apart (xs ++ ys)
apart_behind [] ys a h = none_apart ys h
apart_behind (x ∷ xs) ys a h = (one (at x) a.0, apart_behind xs ys a.1 h)
  where
    one : (o : Option Span) → Alone o xs → Alone o (xs ++ ys)
    one None a = tt
    one (Some s) a = else_both s xs ys a (none_else s ys h)

apart_last : (xs : List C) (c : C) (s : Span) → at c ≡ Some s → AreElsewhere s xs → Apart xs → Apart (put c xs)
apart_last [] c s e h a = (subst (λ (o : Option Span). Alone o []) (sym e) tt, tt)
apart_last (x ∷ xs) c s e h a = (one (at x) h.0 a.0, apart_last xs c s e h.1 a.1)
  where
    turned : (t : Span) → (s ≡ t → ⊥) → IsElsewhere t (at c)
    turned t k = subst (IsElsewhere t) (sym e) (λ q. k (sym q))

    one : (o : Option Span) → IsElsewhere s o → Alone o xs → Alone o (put c xs)
    one None k a = tt
    one (Some t) k a = else_both t xs (c ∷ []) a (turned t k, tt)

-- ---- more parts

-- the new parts have no names
pub record Free (xs ys : List C) : Type 0 where
  pub more : List C
  pub is : ys ≡ xs ++ more
  pub none : NoNames more

-- the names of the new parts stand between these places, and no two have one span
pub record Grows (lo hi : ℕ) (xs ys : List C) : Type 0 where
  pub more : List C
  pub is : ys ≡ xs ++ more
  pub all : All (Fits lo hi) more
  pub apart : Apart more

pub free_none : (xs : List C) → Free xs xs
free_none xs = record { more = []; is = sym (append-nil xs); none = tt }

pub free_put : (c : C) (xs : List C) → at c ≡ None → Free xs (put c xs)
free_put c xs e = record { more = c ∷ []; is = refl; none = (e, tt) }

joined : {ys zs : List C} (xs m n : List C) → ys ≡ xs ++ m → zs ≡ ys ++ n → zs ≡ xs ++ (m ++ n)
joined xs m n e f = f ∙ ap (λ (us : List C). us ++ n) e ∙ append_assoc xs m n

pub free_both : {xs ys zs : List C} → Free xs ys → Free ys zs → Free xs zs
free_both {xs = xs} a b = record { more = a.more ++ b.more; is = joined xs a.more b.more a.is b.is; none = none_both a.more b.more a.none b.none }

module _ {lo hi : ℕ} where
  pub stays : {xs : List C} → Grows lo hi xs xs
  stays {xs = xs} = record { more = []; is = sym (append-nil xs); all = tt; apart = tt }

  pub wider : {a b : ℕ} {xs ys : List C} → lo ≤ a → b ≤ hi → Grows a b xs ys → Grows lo hi xs ys
  wider x y g = record { more = g.more; is = g.is; all = all_more (λ s h. (le-le x h.0, lt-le h.1 y, le-le h.2 y)) g.more g.all; apart = g.apart }

  pub one : {Q : ℕ → ℕ → Type 0} {xs ys : List C} → One lo hi Q → ((a b : ℕ) → Q a b → Grows a b xs ys) → Grows lo hi xs ys
  one q f = wider q.above q.below (f q.from q.upto q.it)

  pub two : {Q R : ℕ → ℕ → Type 0} {xs ys zs : List C} → Two lo hi Q R → ((a b : ℕ) → Q a b → Grows a b xs ys) → ((a b : ℕ) → R a b → Grows a b ys zs) → Grows lo hi xs zs
  two {xs = xs} q f g =
      let h = f lo q.mid q.one in
      let k = g q.next hi q.two in
      record {
        more = h.more ++ k.more;
        is = joined xs h.more k.more h.is k.is;
        all = all_both (Fits lo hi) h.more k.more (all_more (λ s z. (z.0, lt-le z.1 q.below, le-le z.2 q.below)) h.more h.all) (all_more (λ s z. (le-le q.above z.0, z.1, z.2)) k.more k.all);
        apart = apart_both lo q.mid q.next hi h.more k.more q.apart h.all k.all h.apart k.apart;
      }

  pub behind : {xs ys zs : List C} → Free xs ys → Grows lo hi ys zs → Grows lo hi xs zs
  behind {xs = xs} f g = record { more = f.more ++ g.more; is = joined xs f.more g.more f.is g.is; all = all_both (Fits lo hi) f.more g.more (none_all (Fits lo hi) f.more f.none) g.all; apart = apart_none f.more g.more f.none g.apart }

  pub before : {xs ys zs : List C} → Grows lo hi xs ys → Free ys zs → Grows lo hi xs zs
  before {xs = xs} g f = record { more = g.more ++ f.more; is = joined xs g.more f.more g.is f.is; all = all_both (Fits lo hi) g.more f.more g.all (none_all (Fits lo hi) f.more f.none); apart = apart_behind g.more f.more g.apart f.none }

  pub leaf : (c : C) (xs : List C) (s : Span) → at c ≡ Some s → Fits lo hi s → Grows lo hi xs (put c xs)
  leaf c xs s e h = record { more = c ∷ []; is = refl; all = (subst (Of (Fits lo hi)) (sym e) h, tt); apart = (subst (λ (o : Option Span). Alone o []) (sym e) tt, tt) }

  -- a part that ends behind those before it
  pub short : {b : ℕ} {xs ys : List C} (c : C) (s : Span) → at c ≡ Some s → Fits lo hi s → b < s.end → b ≤ hi → Grows lo b xs ys → Grows lo hi xs (put c ys)
  short {b = b} {xs = xs} c s e h x y g =
      record {
        more = put c g.more;
        is = joined xs g.more (c ∷ []) g.is refl;
        all = all_both (Fits lo hi) g.more (c ∷ []) (all_more (λ v z. (z.0, lt-le z.1 y, le-le z.2 y)) g.more g.all) (subst (Of (Fits lo hi)) (sym e) h, tt);
        apart = apart_last g.more c s e (all_else s (ends_before s lo b x) g.more g.all) g.apart;
      }
