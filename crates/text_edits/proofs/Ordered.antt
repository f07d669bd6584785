-- Spans in order, and a place among them.
use Rattle.std.proofs.Common.{◌≡◌, ◌≤◌, ◌<◌, ◌⊎◌, ℕ, zero, suc, List, [], ◌∷◌, length, get_or, refl, sym, subst, inl, inr, arith}
use Rattle.std.proofs.lemmas.Bool.{cases_lt}
use Rattle.std.specs.List.{insert}
use Rattle.go_tree.specs.declared.spans.Span.{Span}
use Rattle.text_edits.specs.declared.edit.Edit.{Edit}
use Rattle.text_edits.specs.Spans.{IsSpan, Overlaps, Precedes}
use Rattle.text_edits.specs.Order.{InOrder, IsFree, IsPlace, PrecedesEach, spans}
use Rattle.text_edits.specs.Applied.{Ascend, Within, applied}
use Rattle.text_edits.specs.Keeps.{Keeps}

-- ---- two spans

pub overlap_of : (a b : Span) → IsSpan a → IsSpan b → (Precedes a b → ⊥) → (Precedes b a → ⊥) → Overlaps a b
overlap_of a b p q n m = by_ends (cases_lt b.start a.end) (cases_lt a.start b.end)
  where
    shared : b.start < a.end → a.start < b.end → a.start < a.end → b.start < b.end → (a.start < b.start) ⊎ (b.start ≤ a.start) → Overlaps a b
    shared h k e f (inl l) = inl (b.start, (omega arith, h), (omega arith, f))
    shared h k e f (inr l) = inl (a.start, (omega arith, e), (l, k))

    full : b.start < a.end → a.start < b.end → (a.start < a.end) ⊎ (a.end ≤ a.start) → (b.start < b.end) ⊎ (b.end ≤ b.start) → Overlaps a b
    full h k (inl e) (inl f) = shared h k e f (cases_lt a.start b.start)
    full h k (inr e) f = inr (inl (omega arith, omega arith, k))
    full h k (inl e) (inr f) = inr (inr (inl (omega arith, omega arith, h)))

    by_ends : (b.start < a.end) ⊎ (a.end ≤ b.start) → (a.start < b.end) ⊎ (b.end ≤ a.start) → Overlaps a b
    by_ends (inl h) (inl k) = full h k (cases_lt a.start a.end) (cases_lt b.start b.end)
    by_ends (inl h) (inr k) = absurd (m (k, h))
    by_ends (inr h) (inl k) = absurd (n (h, k))
    by_ends (inr h) (inr k) = inr (inr (inr (omega arith, omega arith, omega arith)))

free_before : (a b : Span) → Precedes a b → Overlaps a b → ⊥
free_before a b p (inl (k, x, y)) = omega arith
free_before a b p (inr (inl x)) = omega arith
free_before a b p (inr (inr (inl x))) = omega arith
free_before a b p (inr (inr (inr x))) = omega arith

free_behind : (a b : Span) → Precedes b a → Overlaps a b → ⊥
free_behind a b p (inl (k, x, y)) = omega arith
free_behind a b p (inr (inl x)) = omega arith
free_behind a b p (inr (inr (inl x))) = omega arith
free_behind a b p (inr (inr (inr x))) = omega arith

-- ---- a place in order

each_behind : (s : Span) (e : Edit) (es : List Edit) → IsSpan s → IsSpan e.span → Precedes s e.span → PrecedesEach e.span es → PrecedesEach s es
each_behind s e [] p q h hs = tt
each_behind s e (f ∷ fs) p q h hs = ((omega (arith, h, hs.0), omega (arith, h, hs.0)), each_behind s e fs p q h hs.1)

each_insert : (s : Span) (e : Edit) (es : List Edit) (k : ℕ) → Precedes s e.span → PrecedesEach s es → PrecedesEach s (insert es k e)
each_insert s e es zero h hs = (h, hs)
each_insert s e [] (suc k) h hs = (h, tt)
each_insert s e (f ∷ fs) (suc k) h hs = (hs.0, each_insert s e fs k h hs.1)

in_order_insert : (es : List Edit) (k : ℕ) (e : Edit) → InOrder es → k ≤ length es → IsSpan e.span
    → ((i : ℕ) (d : Edit) → i < k → Precedes (get_or es i d).span e.span) → ((d : Edit) → k < length es → Precedes e.span (get_or es k d).span) → InOrder (insert es k e)
in_order_insert [] zero e o le p before behind = (p, tt, tt)
in_order_insert (f ∷ fs) zero e o le p before behind =
    let h : Precedes e.span f.span = behind f (omega arith) in
    (p, (h, each_behind e.span f fs p o.0 h o.1), o)
in_order_insert [] (suc k) e o le p before behind = absurd (omega arith)
in_order_insert (f ∷ fs) (suc k) e o le p before behind =
    (o.0, each_insert f.span e fs k (before zero f (omega arith)) o.1, in_order_insert fs k e o.2 (omega arith) p (λ i d lt. before (suc i) d (omega arith)) (λ d lt. behind d (omega arith)))

-- an edit of the same span has the same place
pub is_place : (es : List Edit) (k : ℕ) (s : Span) → InOrder es → k ≤ length es → IsSpan s
    → ((i : ℕ) (d : Edit) → i < k → Precedes (get_or es i d).span s) → ((d : Edit) → k < length es → Precedes s (get_or es k d).span) → IsPlace k s es
is_place es k s o le p before behind = (
  le,
  λ (e : Edit) (same : e.span ≡ s). in_order_insert es k e o le (subst IsSpan (sym same) p)
      (λ i d lt. subst (Precedes (get_or es i d).span) (sym same) (before i d lt)) (λ d lt. subst (λ (t : Span). Precedes t (get_or es k d).span) (sym same) (behind d lt)),
)

pub span_at : (es : List Edit) (k : ℕ) (d : Edit) → InOrder es → k < length es → IsSpan (get_or es k d).span
span_at [] k d o lt = absurd (omega arith)
span_at (e ∷ es) zero d o lt = o.0
span_at (e ∷ es) (suc k) d o lt = span_at es k d o.2 (omega arith)

free_of_each : (s : Span) (es : List Edit) → PrecedesEach s es → IsFree s es
free_of_each s [] h = tt
free_of_each s (e ∷ es) h = (free_behind e.span s h.0, free_of_each s es h.1)

each_at : (s : Span) (es : List Edit) (k : ℕ) (e : Edit) → PrecedesEach s (insert es k e) → Precedes s e.span
each_at s es zero e h = h.0
each_at s [] (suc k) e h = h.0
each_at s (f ∷ fs) (suc k) e h = each_at s fs k e h.1

pub free_of_order : (es : List Edit) (k : ℕ) (e : Edit) → InOrder (insert es k e) → IsFree e.span es
free_of_order es zero e o = free_of_each e.span es o.1
free_of_order [] (suc k) e o = tt
free_of_order (f ∷ fs) (suc k) e o = (free_before f.span e.span (each_at f.span fs k e o.1), free_of_order fs k e o.2)

pub within_insert : (size : ℕ) (es : List Edit) (k : ℕ) (e : Edit) → e.span.end ≤ size → Within size es → Within size (insert es k e)
within_insert size es zero e h w = (h, w)
within_insert size [] (suc k) e h w = (h, tt)
within_insert size (f ∷ fs) (suc k) e h w = (w.0, within_insert size fs k e h w.1)

-- ---- edits of a text

ascend_behind : (size : ℕ) (e : Edit) (es : List Edit) → e.span.end ≤ size → PrecedesEach e.span es → InOrder es → Within size es → Ascend e.span.end size es
ascend_behind size e [] le h o w = le
ascend_behind size e (f ∷ fs) le h o w = (h.0.0, o.0, w.0, ascend_behind size f fs w.0 o.1 o.2 w.1)

pub ascend_all : (size : ℕ) (es : List Edit) → InOrder es → Within size es → Ascend 0 size es
ascend_all size [] o w = omega arith
ascend_all size (e ∷ es) o w = (omega arith, o.0, w.0, ascend_behind size e es w.0 o.1 o.2 w.1)

pub keeps_applied : (text new : List ℕ) (es : List Edit) → Ascend 0 (length text) es → new ≡ applied text es → Keeps text new (spans es)
keeps_applied text new es h e = record { edits = es; ranges_are = refl; ascend = h; replaced = e }
