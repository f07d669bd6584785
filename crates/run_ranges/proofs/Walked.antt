-- What the walk over ranges gives are the ranges of the joined edits.
use Rattle.std.proofs.Common.{◌≡◌, ◌∙◌, refl, sym, ap, subst, ℕ, ◌+◌, ◌-◌, ◌<◌, ◌≤◌, Bool, true, false, nat_lt, List, [], ◌∷◌, ◌++◌, length, map, take, drop, Some, None, arith, length-append, length-drop}
use Rattle.std.proofs.lemmas.Bool.{ltb-true, ltb-false, lt-ltb, le-ltb}
use Rattle.std.proofs.lemmas.List.{length-take-le, drop_all}
use Rattle.text_edits.specs.declared.edit.Edit.{Edit}
use Rattle.text_edits.specs.Joined as text
use Rattle.text_edits.specs.Joined.{edits_before, edits_behind, start_of, end_of, text_before, text_behind, joined}
use Rattle.run_ranges.specs.declared.ranges.ChangedRange.{ChangedRange}
use Rattle.run_ranges.specs.declared.ranges.Walk.{Walk}
use Rattle.run_ranges.specs.Ranges.{AreRanges, range_of}
use Rattle.run_ranges.specs.Walks.{joined_on, at_first}

module _ (next : Edit) (span : next.span.start ≤ next.span.end) where
  abbrev n : ChangedRange
  n = range_of next

  -- ---- once a range was met

  abbrev after : ℕ → ℕ → ℕ → ℕ → Walk
  after from at s b = record { from = from; at = at; start = Some s; before = b }

  -- the joined range, behind which these edits stand
  abbrev whole : ℕ → ℕ → ℕ → ℕ → List Edit → ChangedRange
  whole from at s b es =
      record {
        start = s;
        end = end_of next from at es;
        length = b + (length next.text + ((at - next.span.end) + length (text_behind next from at es)));
      }

  no_more : (k : ℕ) → k ≡ k + 0
  no_more k = omega arith

  -- what stays behind the edit of the last range that is met
  stays_behind : (at p q : ℕ) (f : Edit) (rest : List ℕ) → q ≡ p + length f.text → at ≤ p → p ≤ next.span.end
      → (q - next.span.end) + length rest ≡ (at - next.span.end) + length (drop (next.span.end - p) f.text ++ rest)
  stays_behind at p q f rest is order inside =
      let a : length (drop (next.span.end - p) f.text ++ rest) ≡ length (drop (next.span.end - p) f.text) + length rest = length-append (drop (next.span.end - p) f.text) rest in
      let d : length (drop (next.span.end - p) f.text) ≡ length f.text - (next.span.end - p) = length-drop (next.span.end - p) f.text in
      omega (arith, is, order, inside, a, d)

  abbrev Later : ℕ → ℕ → ℕ → ℕ → List Edit → Type 0
  Later from at s b es = joined_on n (after from at s b) (map range_of es) ≡ whole from at s b es ∷ map range_of (edits_behind next from at es)

  later_step : (from at s b : ℕ) (f : Edit) (fs : List Edit) → next.span.start ≤ at → (c : Bool) → nat_lt next.span.end (text.begins from at f) ≡ c
      → nat_lt (text.ends from at f) next.span.start ≡ false → Later f.span.end (text.ends from at f) s b fs → Later from at s b (f ∷ fs)
  later_step from at s b f fs h true e not_before r =
      rw (not_before, e) (λ w. record { start = s; end = from + (next.span.end - at); length = b + (length next.text + no_more (at - next.span.end) w) } ∷ range_of f ∷ map range_of fs)
  later_step from at s b f fs h false e not_before r =
      rw (not_before, e)
      (r ∙ (λ w. record { start = s; end = end_of next f.span.end (text.ends from at f) fs; length = b + (length next.text + stays_behind at (text.begins from at f) (text.ends from at f) f (text_behind next f.span.end (text.ends from at f) fs) refl (omega arith) (ltb-false next.span.end (text.begins from at f) e) w) } ∷ map range_of (edits_behind next f.span.end (text.ends from at f) fs)))

  later : (from at s b : ℕ) (es : List Edit) → next.span.start ≤ at → Later from at s b es
  later from at s b [] h = λ w. record { start = s; end = from + (next.span.end - at); length = b + (length next.text + no_more (at - next.span.end) w) } ∷ []
  later from at s b (f ∷ fs) h =
      later_step from at s b f fs h (nat_lt next.span.end (text.begins from at f)) refl (le-ltb (text.ends from at f) next.span.start (omega (arith, h)))
      (later f.span.end (text.ends from at f) s b fs (omega (arith, h)))

  -- ---- before

  abbrev before : ℕ → ℕ → Walk
  before from at = record { from = from; at = at; start = None; before = 0 }

  -- the joined edit
  abbrev one : ℕ → ℕ → List Edit → Edit
  one from at es =
      record { span = record { start = start_of next from at es; end = end_of next from at es }; text = text_before next from at es ++ (next.text ++ text_behind next from at es) }

  abbrev Ahead : ℕ → ℕ → List Edit → Type 0
  Ahead from at es = joined_on n (before from at) (map range_of es) ≡ map range_of (edits_before next from at es ++ one from at es ∷ edits_behind next from at es)

  -- the bytes of the joined edit, of which `k` stand before
  joined_size : (at k : ℕ) (a b : List ℕ) → length a ≡ k → k + (length next.text + ((at - next.span.end) + length b)) ≡ (at - next.span.end) + length (a ++ (next.text ++ b))
  joined_size at k a b e =
      let x : length (a ++ (next.text ++ b)) ≡ length a + length (next.text ++ b) = length-append a (next.text ++ b) in
      let y : length (next.text ++ b) ≡ length next.text + length b = length-append next.text b in
      omega (arith, x, y, e)

  -- no range is joined: all bytes are those of the edit
  none_joined : (at : ℕ) → at ≤ next.span.start → 0 + (length next.text + (at - next.span.end)) ≡ length (next.text ++ [])
  none_joined at h = let x : length (next.text ++ []) ≡ length next.text + 0 = length-append next.text [] in omega (arith, x, h, span)

  taken : (k : ℕ) (xs : List ℕ) → k ≡ 0 → take k xs ≡ []
  taken k xs e = subst (λ (j : ℕ). take j xs ≡ []) (sym e) refl

  -- the edit before which a range ends
  passed_step : (from at : ℕ) (f : Edit) (fs : List Edit) → nat_lt (text.ends from at f) next.span.start ≡ true → nat_lt next.span.end (text.begins from at f) ≡ false
      → drop (next.span.end - text.begins from at f) f.text ≡ [] → Ahead f.span.end (text.ends from at f) fs → Ahead from at (f ∷ fs)
  passed_step from at f fs t u d r = rw (t, u, d) (λ w. range_of f ∷ r w)

  -- the edit that stands behind
  behind_step : (from at : ℕ) (f : Edit) (fs : List Edit) → at ≤ next.span.start → nat_lt (text.ends from at f) next.span.start ≡ false → nat_lt next.span.end (text.begins from at f) ≡ true
      → nat_lt next.span.start (text.begins from at f) ≡ true → take (next.span.start - text.begins from at f) f.text ≡ [] → Ahead from at (f ∷ fs)
  behind_step from at f fs h t u v x =
      rw (t, u, v, x) (λ w. record { start = from + (next.span.start - at); end = from + (next.span.end - at); length = none_joined at h w } ∷ range_of f ∷ map range_of fs)

  -- the edit that is met
  met_step : (from at : ℕ) (f : Edit) (fs : List Edit) → at ≤ next.span.start → nat_lt (text.ends from at f) next.span.start ≡ false → nat_lt next.span.end (text.begins from at f) ≡ false
      → (c : Bool) → nat_lt next.span.start (text.begins from at f) ≡ c → Ahead from at (f ∷ fs)
  met_step from at f fs h t u true v =
      rw (t, u, v)
      (later f.span.end (text.ends from at f) (from + (next.span.start - at)) 0 fs (ltb-false (text.ends from at f) next.span.start t)
      ∙ (λ w. record { start = from + (next.span.start - at); end = end_of next f.span.end (text.ends from at f) fs; length = sums w } ∷ map range_of (edits_behind next f.span.end (text.ends from at f) fs)))
    where
      sums : 0 + (length next.text + ((text.ends from at f - next.span.end) + length (text_behind next f.span.end (text.ends from at f) fs)))
          ≡ length (take (next.span.start - text.begins from at f) f.text ++ (next.text ++ (drop (next.span.end - text.begins from at f) f.text ++ text_behind next f.span.end (text.ends from at f) fs)))
      sums =
          let lt : next.span.start < text.begins from at f = ltb-true next.span.start (text.begins from at f) v in
          let none : length (take (next.span.start - text.begins from at f) f.text) ≡ 0 = ap length (taken (next.span.start - text.begins from at f) f.text (omega (arith, lt))) in
          let a = stays_behind at (text.begins from at f) (text.ends from at f) f (text_behind next f.span.end (text.ends from at f) fs) refl (omega arith) (ltb-false next.span.end (text.begins from at f) u) in
          let b = joined_size at 0 (take (next.span.start - text.begins from at f) f.text) (drop (next.span.end - text.begins from at f) f.text ++ text_behind next f.span.end (text.ends from at f) fs) none in
          omega (arith, a, b, h, span)
  met_step from at f fs h t u false v =
      rw (t, u, v)
      (later f.span.end (text.ends from at f) f.span.start (next.span.start - text.begins from at f) fs (ltb-false (text.ends from at f) next.span.start t)
      ∙ (λ w. record { start = f.span.start; end = end_of next f.span.end (text.ends from at f) fs; length = sums w } ∷ map range_of (edits_behind next f.span.end (text.ends from at f) fs)))
    where
      sums : (next.span.start - text.begins from at f) + (length next.text + ((text.ends from at f - next.span.end) + length (text_behind next f.span.end (text.ends from at f) fs)))
          ≡ length (take (next.span.start - text.begins from at f) f.text ++ (next.text ++ (drop (next.span.end - text.begins from at f) f.text ++ text_behind next f.span.end (text.ends from at f) fs)))
      sums =
          let le : next.span.start ≤ text.ends from at f = ltb-false (text.ends from at f) next.span.start t in
          let front : length (take (next.span.start - text.begins from at f) f.text) ≡ next.span.start - text.begins from at f = length-take-le (next.span.start - text.begins from at f) f.text (omega (arith, le)) in
          let a = stays_behind at (text.begins from at f) (text.ends from at f) f (text_behind next f.span.end (text.ends from at f) fs) refl (omega arith) (ltb-false next.span.end (text.begins from at f) u) in
          let b = joined_size at (next.span.start - text.begins from at f) (take (next.span.start - text.begins from at f) f.text) (drop (next.span.end - text.begins from at f) f.text ++ text_behind next f.span.end (text.ends from at f) fs) front in
          omega (arith, a, b, h, span)

  ahead_step : (from at : ℕ) (f : Edit) (fs : List Edit) → at ≤ next.span.start → (text.ends from at f ≤ next.span.start → Ahead f.span.end (text.ends from at f) fs)
      → (c d : Bool) → nat_lt (text.ends from at f) next.span.start ≡ c → nat_lt next.span.end (text.begins from at f) ≡ d → Ahead from at (f ∷ fs)
  ahead_step from at f fs h r true d t u =
      let lt : text.ends from at f < next.span.start = ltb-true (text.ends from at f) next.span.start t in
      passed_step from at f fs t (le-ltb next.span.end (text.begins from at f) (omega (arith, lt, span)))
      (drop_all (next.span.end - text.begins from at f) f.text (omega (arith, lt, span))) (r (omega (arith, lt)))
  ahead_step from at f fs h r false true t u =
      let lt : next.span.end < text.begins from at f = ltb-true next.span.end (text.begins from at f) u in
      behind_step from at f fs h t u (lt-ltb next.span.start (text.begins from at f) (omega (arith, lt, span)))
      (taken (next.span.start - text.begins from at f) f.text (omega (arith, lt, span)))
  ahead_step from at f fs h r false false t u = met_step from at f fs h t u (nat_lt next.span.start (text.begins from at f)) refl

  ahead : (from at : ℕ) (es : List Edit) → at ≤ next.span.start → Ahead from at es
  ahead from at [] h = λ w. record { start = from + (next.span.start - at); end = from + (next.span.end - at); length = none_joined at h w } ∷ []
  ahead from at (f ∷ fs) h =
      ahead_step from at f fs h (λ k. ahead f.span.end (text.ends from at f) fs k) (nat_lt (text.ends from at f) next.span.start) (nat_lt next.span.end (text.begins from at f)) refl refl

-- the ranges of the joined edits
pub walked : (made : List ChangedRange) (next : ChangedRange) (rs : List ChangedRange) → next.start ≤ next.end → rs ≡ joined_on next at_first made
    → (es : List Edit) (e : Edit) → AreRanges es made → range_of e ≡ next → AreRanges (joined e es) rs
walked made next rs order is es e made_is next_is =
    sym
    (is ∙ (λ w. joined_on (sym next_is w) at_first (sym made_is w))
    ∙ ahead e (subst (λ (r : ChangedRange). r.start ≤ r.end) (sym next_is) order) 0 0 es (omega arith))
