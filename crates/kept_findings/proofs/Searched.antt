-- Among findings whose places ascend, the first that isn't before a place decides which stands there.
use Rattle.std.proofs.Common.{◌≡◌, ◌∙◌, ℕ, zero, suc, ◌≤◌, ◌<◌, Bool, true, false, ◌&&◌, ◌||◌, nat_eq, nat_le, nat_lt}
use Rattle.std.proofs.Common.{List, [], ◌∷◌, length, drop, map, Option, Some, None, slice_index_or, refl, sym, ap, arith}
use Rattle.std.specs.Prelude.{if◌then◌else◌}
use Rattle.std.specs.List.{list_all}
use Rattle.std.specs.List.Sorted.{IsPartitionedBy}
use Rattle.std.proofs.lemmas.Bool.Decides.{nat_tests}
use Rattle.go_tree.specs.declared.spans.Span.{Span}
use Rattle.expression_spans.specs.Order.{is_before, ascends}
use Rattle.checked_findings.specs.LookUp.{same_span}
use Rattle.kept_findings.specs.declared.findings.Finding.{Finding}
use Rattle.kept_findings.specs.Kept.{spans_kept, kept_at, first_kept}

pub and_left : (a b : Bool) → (a && b) ≡ true → a ≡ true
and_left true b e = refl
and_left false b e = e

pub and_right : (a b : Bool) → (a && b) ≡ true → b ≡ true
and_right true b e = e
and_right false b e = grind arith

-- ---- the order

before-before : (s t u : Span) → is_before s t ≡ true → is_before t u ≡ true → is_before s u ≡ true
before-before s t u a b = grind (arith, nat_tests, a, b)

differs : (s t : Span) → is_before s t ≡ true → same_span t s ≡ false
differs s t e = grind (arith, nat_tests, e)

differs-too : (s t : Span) → is_before s t ≡ true → same_span s t ≡ false
differs-too s t e = grind (arith, nat_tests, e)

-- of two that differ one is before the other
other-way : (s t : Span) → is_before s t ≡ false → same_span t s ≡ false → is_before t s ≡ true
other-way s t a b = grind (arith, nat_tests, a, b)

-- ---- lists

all-at : (p : Span → Bool) (fs : List Finding) → list_all p (spans_kept fs) ≡ true → (j : ℕ) (d : Finding) →
    j < length fs → p (slice_index_or fs j d).at ≡ true
all-at p [] e j d h = absurd (omega (arith, h))
all-at p (f ∷ fs) e zero d h = and_left (p f.at) (list_all p (spans_kept fs)) e
all-at p (f ∷ fs) e (suc j) d h =
    all-at p fs (and_right (p f.at) (list_all p (spans_kept fs)) e) j d (omega (arith, h))

heads : (f : Finding) (fs : List Finding) → ascends (spans_kept (f ∷ fs)) ≡ true →
    list_all (is_before f.at) (spans_kept fs) ≡ true
heads f fs e = and_left (list_all (is_before f.at) (spans_kept fs)) (ascends (spans_kept fs)) e

tails : (f : Finding) (fs : List Finding) → ascends (spans_kept (f ∷ fs)) ≡ true → ascends (spans_kept fs) ≡ true
tails f fs e = and_right (list_all (is_before f.at) (spans_kept fs)) (ascends (spans_kept fs)) e

-- those before a place stand in front
pub parted : (at : Span) (fs : List Finding) → ascends (spans_kept fs) ≡ true →
    IsPartitionedBy (λ f. is_before f.at at) fs
parted at [] e i j d le h k = absurd (omega (arith, h))
parted at (f ∷ fs) e zero zero d le h k = k
parted at (f ∷ fs) e (suc i) zero d le h k = absurd (omega (arith, le))
parted at (f ∷ fs) e zero (suc j) d le h k =
    before-before f.at (slice_index_or fs j d).at at
    (all-at (is_before f.at) fs (heads f fs e) j d (omega (arith, h))) k
parted at (f ∷ fs) e (suc i) (suc j) d le h k =
    parted at fs (tails f fs e) i j d (omega (arith, le)) (omega (arith, h)) k

-- ---- the search

pub skipped : (b : Bool) (f : Finding) (o : Option Finding) → b ≡ false → (if b then Some f else o) ≡ o
skipped true f o e = absurd cc
skipped false f o e = refl

-- none of these stands at a place that is before all
none-kept : (at : Span) (fs : List Finding) → list_all (is_before at) (spans_kept fs) ≡ true → kept_at at fs ≡ None
none-kept at [] e = refl
none-kept at (f ∷ fs) e =
    skipped (same_span at f.at) f (kept_at at fs)
    (differs-too at f.at (and_left (is_before at f.at) (list_all (is_before at) (spans_kept fs)) e))
    ∙ none-kept at fs (and_right (is_before at f.at) (list_all (is_before at) (spans_kept fs)) e)

all-behind : (at s : Span) (fs : List Finding) → is_before at s ≡ true → list_all (is_before s) (spans_kept fs) ≡ true →
    list_all (is_before at) (spans_kept fs) ≡ true
all-behind at s [] h e = refl
all-behind at s (f ∷ fs) h e =
    pair (before-before at s f.at h (and_left (is_before s f.at) (list_all (is_before s) (spans_kept fs)) e))
    (all-behind at s fs h (and_right (is_before s f.at) (list_all (is_before s) (spans_kept fs)) e))
  where
    pair : {a b : Bool} → a ≡ true → b ≡ true → (a && b) ≡ true
    pair {a = true} p q = q
    pair {a = false} p q = p

first-decides : (at : Span) (fs : List Finding) → ascends (spans_kept fs) ≡ true →
    ((d : Finding) → 0 < length fs → is_before (slice_index_or fs 0 d).at at ≡ false) → first_kept at fs ≡ kept_at at fs
first-decides at [] e k = refl
first-decides at (f ∷ fs) e k = by (same_span at f.at) refl
  where
    by : (b : Bool) → same_span at f.at ≡ b → (if b then Some f else None) ≡ (if b then Some f else kept_at at fs)
    by true q = refl
    by false q =
        sym
        (none-kept at fs (all-behind at f.at fs (other-way f.at at (k f (omega arith)) q) (heads f fs e)))

pub search-finds : (at : Span) (count : ℕ) (fs : List Finding) → ascends (spans_kept fs) ≡ true → count ≤ length fs →
    ((j : ℕ) (d : Finding) → j < count → is_before (slice_index_or fs j d).at at ≡ true) →
    ((j : ℕ) (d : Finding) → count ≤ j → j < length fs → is_before (slice_index_or fs j d).at at ≡ false) →
    first_kept at (drop count fs) ≡ kept_at at fs
search-finds at zero fs e h before behind = first-decides at fs e (λ d m. behind 0 d (omega arith) m)
search-finds at (suc count) [] e h before behind = absurd (omega (arith, h))
search-finds at (suc count) (f ∷ fs) e h before behind =
    search-finds at count fs (tails f fs e) (omega (arith, h)) (λ j d l. before (suc j) d (omega (arith, l)))
    (λ j d l m. behind (suc j) d (omega (arith, l)) (omega (arith, m)))
    ∙ sym (skipped (same_span at f.at) f (kept_at at fs) (differs f.at at (before 0 f (omega arith))))
