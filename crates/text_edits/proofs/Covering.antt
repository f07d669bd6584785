-- The span of the joined edit is the least that covers what it has to.
use Rattle.std.proofs.Common.{◌≡◌, ◌≤◌, ◌<◌, ◌+◌, ◌-◌, ◌⊎◌, ℕ, nat_lt, List, [], ◌∷◌, length, refl, sym, ap, ◌∙◌, inl, inr, arith}
use Rattle.std.proofs.lemmas.Bool.{cases_lt, cond_both, ltb-true, ltb-false}
use Rattle.go_tree.specs.declared.spans.Span.{Span}
use Rattle.text_edits.specs.declared.edit.Edit.{Edit}
use Rattle.text_edits.specs.Applied.{Ascend}
use Rattle.text_edits.specs.Places.{place_from}
use Rattle.text_edits.specs.Joined.{begins, ends, start_of, end_of, Covers, TouchesOne, JoinedCovers, JoinedIsLeast, JoinedStands}
use Rattle.text_edits.proofs.Joins.{StartIs, EndIs, start_is, end_is, start_from, end_from}

module _ (next : Edit) (span : next.span.start ≤ next.span.end) where
  -- ---- behind the edit's range there is nothing to cover

  covers_nothing : (s : Span) (from at : ℕ) (es : List Edit) → next.span.end < at → Covers next s from at es
  covers_nothing s from at [] lt = λ k lo u a b. absurd (omega (arith, lt, b))
  covers_nothing s from at (f ∷ fs) lt =
      (λ k lo u a b. absurd (omega (arith, lt, b)), λ t. absurd (omega (arith, lt, t.0)), covers_nothing s f.span.end (ends from at f) fs (omega (arith, lt)))

  touches_nothing : (from at : ℕ) (es : List Edit) → next.span.end < at → TouchesOne next from at es → ⊥
  touches_nothing from at [] lt t = t
  touches_nothing from at (f ∷ fs) lt (inl t) = omega (arith, lt, t.0)
  touches_nothing from at (f ∷ fs) lt (inr r) = touches_nothing f.span.end (ends from at f) fs (omega (arith, lt)) r

  -- ---- it covers all

  module _ (from at : ℕ) (f : Edit) (fs : List Edit) (lo : from ≤ f.span.start) (le : f.span.start ≤ f.span.end) where
    start_at_byte : StartIs next from at f fs → (k : ℕ) → from ≤ k → k < f.span.start → next.span.start ≤ at + (k - from) → start_of next from at (f ∷ fs) ≤ k
    start_at_byte (inl x) k p q a = absurd (omega (arith, x.0, p, q, a))
    start_at_byte (inr (inl x)) k p q a = omega (arith, x.2, p, q, a)
    start_at_byte (inr (inr x)) k p q a = absurd (omega (arith, x.1, p, q, a))

    start_at_touched : StartIs next from at f fs → next.span.start ≤ ends from at f → start_of next from at (f ∷ fs) ≤ f.span.start
    start_at_touched (inl x) a = absurd (omega (arith, x.0, a))
    start_at_touched (inr (inl x)) a = omega (arith, x.1, x.2, lo)
    start_at_touched (inr (inr x)) a = omega (arith, x.2)

    start_later : StartIs next from at f fs → f.span.end ≤ start_of next f.span.end (ends from at f) fs → start_of next from at (f ∷ fs) ≤ start_of next f.span.end (ends from at f) fs
    start_later (inl x) l = omega (arith, x.1)
    start_later (inr (inl x)) l = omega (arith, x.1, x.2, lo, le, l)
    start_later (inr (inr x)) l = omega (arith, x.2, le, l)

    covers_step : (s : Span) → f.span.end ≤ start_of next f.span.end (ends from at f) fs → f.span.end ≤ end_of next f.span.end (ends from at f) fs → StartIs next from at f fs → EndIs next from at f fs
        → s.start ≤ start_of next from at (f ∷ fs) → end_of next from at (f ∷ fs) ≤ s.end
        → (s.start ≤ start_of next f.span.end (ends from at f) fs → end_of next f.span.end (ends from at f) fs ≤ s.end → Covers next s f.span.end (ends from at f) fs)
        → Covers next s from at (f ∷ fs)
    covers_step s sl el st (inl y) p q rest = (
      λ k l u a b. let i : start_of next from at (f ∷ fs) ≤ k = start_at_byte st k l u a in (omega (arith, i, p), omega (arith, y.1, q, b, l)),
      λ t. absurd (omega (arith, t.0, y.0)),
      covers_nothing s f.span.end (ends from at f) fs (omega (arith, y.0)),
    )
    covers_step s sl el st (inr y) p q rest =
        let later : start_of next from at (f ∷ fs) ≤ start_of next f.span.end (ends from at f) fs = start_later st sl in (
          λ k l u a b. let i : start_of next from at (f ∷ fs) ≤ k = start_at_byte st k l u a in (omega (arith, i, p), omega (arith, u, le, el, y.1, q)),
          λ t. let i : start_of next from at (f ∷ fs) ≤ f.span.start = start_at_touched st t.1 in (omega (arith, i, p), omega (arith, el, y.1, q)),
          rest (omega (arith, p, later)) (omega (arith, q, y.1)),
        )

  covers : (s : Span) (size from at : ℕ) (es : List Edit) → Ascend from size es → s.start ≤ start_of next from at es → end_of next from at es ≤ s.end → Covers next s from at es
  covers s size from at [] h p q = λ k l u a b. (omega (arith, p, l, a), omega (arith, q, l, b))
  covers s size from at (f ∷ fs) h p q =
      covers_step from at f fs h.0 h.1 s (start_from next size f.span.end (ends from at f) fs h.3) (end_from next size f.span.end (ends from at f) fs h.3)
      (start_is next from at f fs) (end_is next from at f fs) p q (λ a b. covers s size f.span.end (ends from at f) fs h.3 a b)

  -- ---- no span that covers all is less

  module _ (from at : ℕ) (f : Edit) (fs : List Edit) (lo : from ≤ f.span.start) (le : f.span.start ≤ f.span.end) (other : Span) (c : Covers next other from at (f ∷ fs)) where
    some_byte : next.span.start < begins from at f → (next.span.start < next.span.end) ⊎ TouchesOne next from at (f ∷ fs) → (next.span.end < ends from at f) ⊎ (ends from at f ≤ next.span.end) → next.span.start < next.span.end
    some_byte lt (inl h) q = h
    some_byte lt (inr (inl t)) q = omega (arith, lt, t.0)
    some_byte lt (inr (inr r)) (inl q) = absurd (touches_nothing f.span.end (ends from at f) fs q r)
    some_byte lt (inr (inr r)) (inr q) = omega (arith, lt, q)

    later_met : ends from at f < next.span.start → (next.span.start < next.span.end) ⊎ TouchesOne next from at (f ∷ fs) → (next.span.start < next.span.end) ⊎ TouchesOne next f.span.end (ends from at f) fs
    later_met lt (inl h) = inl h
    later_met lt (inr (inl t)) = absurd (omega (arith, lt, t.1))
    later_met lt (inr (inr r)) = inr r

    least_start_step : at ≤ next.span.start → (next.span.start < next.span.end) ⊎ TouchesOne next from at (f ∷ fs)
        → (ends from at f ≤ next.span.start → (next.span.start < next.span.end) ⊎ TouchesOne next f.span.end (ends from at f) fs → other.start ≤ start_of next f.span.end (ends from at f) fs)
        → StartIs next from at f fs → other.start ≤ start_of next from at (f ∷ fs)
    least_start_step a m rest (inl x) = let r : other.start ≤ start_of next f.span.end (ends from at f) fs = rest (omega (arith, x.0)) (later_met x.0 m) in omega (arith, r, x.1)
    least_start_step a m rest (inr (inl x)) =
        let some : next.span.start < next.span.end = some_byte x.1 m (cases_lt next.span.end (ends from at f)) in
        let i : other.start ≤ from + (next.span.start - at) = (c.0 (from + (next.span.start - at)) (omega arith) (omega (arith, x.1, a, lo)) (omega (arith, a)) (omega (arith, a, some))).0 in
        omega (arith, i, x.2)
    least_start_step a m rest (inr (inr x)) = let i : other.start ≤ f.span.start = (c.1 (omega (arith, x.1, span), x.0)).0 in omega (arith, i, x.2)

    later_byte : begins from at f ≤ next.span.end → (at < next.span.end → (next.span.start < next.span.end) ⊎ TouchesOne next from at (f ∷ fs)) → ends from at f < next.span.end
        → (next.span.start < next.span.end) ⊎ TouchesOne next f.span.end (ends from at f) fs
    later_byte p m lt = go (m (omega (arith, lt)))
      where
        go : (next.span.start < next.span.end) ⊎ TouchesOne next from at (f ∷ fs) → (next.span.start < next.span.end) ⊎ TouchesOne next f.span.end (ends from at f) fs
        go (inl h) = inl h
        go (inr (inl t)) = inl (omega (arith, t.1, lt))
        go (inr (inr r)) = inr r

    end_touched : begins from at f ≤ next.span.end → next.span.end ≤ ends from at f → (ends from at f < next.span.start) ⊎ (next.span.start ≤ ends from at f) → f.span.end ≤ other.end
    end_touched p q (inl x) = absurd (omega (arith, x, q, span))
    end_touched p q (inr x) = (c.1 (p, x)).1

    end_byte : next.span.end < begins from at f → (next.span.end ≤ at → from ≤ other.end) → (at < next.span.end → (next.span.start < next.span.end) ⊎ TouchesOne next from at (f ∷ fs))
        → (at < next.span.end) ⊎ (next.span.end ≤ at) → from + (next.span.end - at) ≤ other.end
    end_byte lt before m (inr x) = let i : from ≤ other.end = before x in omega (arith, i, x)
    end_byte lt before m (inl x) = go (m x)
      where
        go : (next.span.start < next.span.end) ⊎ TouchesOne next from at (f ∷ fs) → from + (next.span.end - at) ≤ other.end
        go (inl h) = let i : from + (next.span.end - at) - 1 < other.end = (c.0 (from + (next.span.end - at) - 1) (omega (arith, x)) (omega (arith, x, lt, lo)) (omega (arith, x, h)) (omega (arith, x))).1 in omega (arith, i)
        go (inr (inl t)) = absurd (omega (arith, t.0, lt))
        go (inr (inr r)) = absurd (touches_nothing f.span.end (ends from at f) fs (omega (arith, lt)) r)

    least_end_step : (next.span.end ≤ at → from ≤ other.end) → (at < next.span.end → (next.span.start < next.span.end) ⊎ TouchesOne next from at (f ∷ fs))
        → ((next.span.end ≤ ends from at f → f.span.end ≤ other.end) → (ends from at f < next.span.end → (next.span.start < next.span.end) ⊎ TouchesOne next f.span.end (ends from at f) fs) → end_of next f.span.end (ends from at f) fs ≤ other.end)
        → EndIs next from at f fs → end_of next from at (f ∷ fs) ≤ other.end
    least_end_step before m rest (inl y) = let i : from + (next.span.end - at) ≤ other.end = end_byte y.0 before m (cases_lt at next.span.end) in omega (arith, i, y.1)
    least_end_step before m rest (inr y) =
        let i : end_of next f.span.end (ends from at f) fs ≤ other.end =
        rest (λ q. end_touched y.0 q (cases_lt (ends from at f) next.span.start)) (λ lt. later_byte y.0 m lt) in
        omega (arith, i, y.1)

  module _ (other : Span) where
    least_start : (size from at : ℕ) (es : List Edit) → Ascend from size es → at ≤ next.span.start → Covers next other from at es → (next.span.start < next.span.end) ⊎ TouchesOne next from at es → other.start ≤ start_of next from at es
    least_start size from at [] h a c (inl m) = (c (from + (next.span.start - at)) (omega arith) tt (omega (arith, a)) (omega (arith, a, m))).0
    least_start size from at [] h a c (inr m) = absurd m
    least_start size from at (f ∷ fs) h a c m =
        least_start_step from at f fs h.0 h.1 other c a m (λ b r. least_start size f.span.end (ends from at f) fs h.3 b c.2 r) (start_is next from at f fs)

    end_rest : (from at : ℕ) → Covers next other from at [] → (next.span.end ≤ at → from ≤ other.end) → (at < next.span.end → (next.span.start < next.span.end) ⊎ TouchesOne next from at [])
        → (at < next.span.end) ⊎ (next.span.end ≤ at) → from + (next.span.end - at) ≤ other.end
    end_rest from at c before m (inr x) = let i : from ≤ other.end = before x in omega (arith, i, x)
    end_rest from at c before m (inl x) = go (m x)
      where
        go : (next.span.start < next.span.end) ⊎ TouchesOne next from at [] → from + (next.span.end - at) ≤ other.end
        go (inl h) = let i : from + (next.span.end - at) - 1 < other.end = (c (from + (next.span.end - at) - 1) (omega (arith, x)) tt (omega (arith, x, h)) (omega (arith, x))).1 in omega (arith, i)
        go (inr r) = absurd r

    least_end : (size from at : ℕ) (es : List Edit) → Ascend from size es → Covers next other from at es → (next.span.end ≤ at → from ≤ other.end)
        → (at < next.span.end → (next.span.start < next.span.end) ⊎ TouchesOne next from at es) → end_of next from at es ≤ other.end
    least_end size from at [] h c before m = end_rest from at c before m (cases_lt at next.span.end)
    least_end size from at (f ∷ fs) h c before m =
        least_end_step from at f fs h.0 h.1 other c before m (λ b r. least_end size f.span.end (ends from at f) fs h.3 c.2 b r) (end_is next from at f fs)

  -- ---- where there is nothing to cover

  record Stands (from at : ℕ) (es : List Edit) : Type 0 where
    pub empty : start_of next from at es ≡ end_of next from at es
    pub place : place_from from at es (start_of next from at es) ≡ next.span.start

  module _ (from at : ℕ) (f : Edit) (fs : List Edit) (lo : from ≤ f.span.start) (le : f.span.start ≤ f.span.end) (a : at ≤ next.span.start) (same : next.span.start ≡ next.span.end) where
    place_of : (k : ℕ) → k < f.span.end → place_from from at (f ∷ fs) k ≡ at + (k - from)
    place_of k lt =
        cond_both (nat_lt k f.span.end) (at + (k - from)) (place_from f.span.end (ends from at f) fs k) (λ m. m ≡ at + (k - from))
        (λ t. refl) (λ t. let ge : f.span.end ≤ k = ltb-false k f.span.end t in absurd (omega (arith, lt, ge)))

    place_later : (k : ℕ) → f.span.end ≤ k → place_from from at (f ∷ fs) k ≡ place_from f.span.end (ends from at f) fs k
    place_later k ge =
        cond_both (nat_lt k f.span.end) (at + (k - from)) (place_from f.span.end (ends from at f) fs k) (λ m. m ≡ place_from f.span.end (ends from at f) fs k)
        (λ t. let lt : k < f.span.end = ltb-true k f.span.end t in absurd (omega (arith, lt, ge))) (λ t. refl)

    stands_step : (TouchesOne next from at (f ∷ fs) → ⊥) → f.span.end ≤ start_of next f.span.end (ends from at f) fs
        → (ends from at f ≤ next.span.start → Stands f.span.end (ends from at f) fs) → StartIs next from at f fs → EndIs next from at f fs → Stands from at (f ∷ fs)
    stands_step clear later rest (inl x) (inl y) = absurd (omega (arith, x.0, y.0, same))
    stands_step clear later rest (inl x) (inr y) =
        let r : Stands f.span.end (ends from at f) fs = rest (omega (arith, x.0)) in
        record {
          empty = x.1 ∙ r.empty ∙ sym y.1;
          place = ap (place_from from at (f ∷ fs)) x.1 ∙ place_later (start_of next f.span.end (ends from at f) fs) later ∙ r.place;
        }
    stands_step clear later rest (inr (inl x)) (inl y) =
        let n : from + (next.span.start - at) ≡ from + (next.span.end - at) = omega (arith, same) in
        let m : at + (from + (next.span.start - at) - from) ≡ next.span.start = omega (arith, a) in
        record {
          empty = x.2 ∙ n ∙ sym y.1;
          place = ap (place_from from at (f ∷ fs)) x.2 ∙ place_of (from + (next.span.start - at)) (omega (arith, x.1, a, lo, le)) ∙ m;
        }
    stands_step clear later rest (inr (inl x)) (inr y) = absurd (omega (arith, x.1, y.0, same))
    stands_step clear later rest (inr (inr x)) y = absurd (clear (inl (omega (arith, x.1, same), x.0)))

  stands : (size from at : ℕ) (es : List Edit) → Ascend from size es → at ≤ next.span.start → next.span.start ≡ next.span.end → (TouchesOne next from at es → ⊥) → Stands from at es
  stands size from at [] h a same clear = record {
    empty = ap (λ k. from + (k - at)) same;
    place = omega (arith, a);
  }
  stands size from at (f ∷ fs) h a same clear =
      stands_step from at f fs h.0 h.1 a same clear (start_from next size f.span.end (ends from at f) fs h.3) (λ b. stands size f.span.end (ends from at f) fs h.3 b same (λ r. clear (inr r)))
      (start_is next from at f fs) (end_is next from at f fs)

-- ---- the laws

pub joined_covers : JoinedCovers
joined_covers old es next h = covers next h.1 (record { start = start_of next 0 0 es; end = end_of next 0 0 es }) (length old) 0 0 es h.0 (omega arith) (omega arith)

pub joined_is_least : JoinedIsLeast
joined_is_least old es next other h m c = (
  least_start next h.1 other (length old) 0 0 es h.0 (omega arith) c m,
  least_end next h.1 other (length old) 0 0 es h.0 c (λ b. omega arith) (λ lt. m),
)

pub joined_stands : JoinedStands
joined_stands old es next h same clear =
    let s : Stands next h.1 0 0 es = stands next h.1 (length old) 0 0 es h.0 (omega arith) same clear in
    (s.empty, s.place)
