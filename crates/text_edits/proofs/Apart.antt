-- No two ranges touch, once an edit is joined with all that it touches.
use Rattle.std.proofs.Common.{◌≡◌, ◌≤◌, ◌<◌, ◌+◌, ◌-◌, ◌⊎◌, ℕ, if◌then◌else◌, nat_lt, List, [], ◌∷◌, ◌++◌, length, refl, inl, inr, arith}
use Rattle.std.proofs.lemmas.Bool.{cond_both, ltb-true}
use Rattle.text_edits.specs.declared.edit.Edit.{Edit}
use Rattle.text_edits.specs.Applied.{Ascend}
use Rattle.text_edits.specs.Joined.{begins, ends, edits_before, edits_behind, start_of, end_of, joined_edit, Behind, Apart, JoinedApart}
use Rattle.text_edits.proofs.Joins.{StartIs, start_is, start_from, two_tests}

module _ (next : Edit) where
  end_before : (from at : ℕ) (f : Edit) (fs : List Edit) → from ≤ f.span.start → next.span.end < begins from at f → (at ≤ next.span.end) ⊎ Behind from (f ∷ fs) → from + (next.span.end - at) < f.span.start
  end_before from at f fs lo lt (inl le) = omega (arith, lo, lt, le)
  end_before from at f fs lo lt (inr d) = omega (arith, lo, lt, d)

  behind_apart : (size from at : ℕ) (es : List Edit) → Ascend from size es → Apart es → (at ≤ next.span.end) ⊎ Behind from es → Behind (end_of next from at es) (edits_behind next from at es) × Apart (edits_behind next from at es)
  behind_apart size from at [] h d o = (tt, tt)
  behind_apart size from at (f ∷ fs) h d o =
      let p : ℕ = begins from at f in
      let q : ℕ = ends from at f in
      let b : ℕ = next.span.end in
      two_tests (λ (s : ℕ) (es : List Edit). Behind s es × Apart es) (nat_lt b p) (from + (b - at)) (end_of next f.span.end q fs) (f ∷ fs) (edits_behind next f.span.end q fs)
      (λ t. (end_before from at f fs h.0 (ltb-true b p t) o, d))
      (λ t. behind_apart size f.span.end q fs h.3 d.1 (inr d.0))

  strict_step : (from at : ℕ) (f : Edit) (fs : List Edit) → at < next.span.start → from < f.span.start → f.span.start ≤ f.span.end → f.span.end ≤ start_of next f.span.end (ends from at f) fs → StartIs next from at f fs → from < start_of next from at (f ∷ fs)
  strict_step from at f fs a lo le later (inl x) = omega (arith, x.1, lo, le, later)
  strict_step from at f fs a lo le later (inr (inl x)) = omega (arith, x.2, a)
  strict_step from at f fs a lo le later (inr (inr x)) = omega (arith, x.2, lo)

  strict_start : (size from at : ℕ) (es : List Edit) → at < next.span.start → Ascend from size es → Behind from es → from < start_of next from at es
  strict_start size from at [] a h d = omega (arith, a)
  strict_start size from at (f ∷ fs) a h d = strict_step from at f fs a d h.1 (start_from next size f.span.end (ends from at f) fs h.3) (start_is next from at f fs)

  module _ (w : Edit) (more : List Edit) where
    first_behind : (k from at : ℕ) (es : List Edit) → Behind k es → k < w.span.start → Behind k (edits_before next from at es ++ w ∷ more)
    first_behind k from at [] d lt = lt
    first_behind k from at (f ∷ fs) d lt =
        cond_both (nat_lt (ends from at f) next.span.start) (f ∷ edits_before next f.span.end (ends from at f) fs) [] (λ (l : List Edit). Behind k (l ++ w ∷ more)) (λ t. d) (λ t. lt)

    ahead_apart : Behind w.span.end more → Apart more → (size from at : ℕ) (es : List Edit) → Ascend from size es → Apart es → w.span.start ≡ start_of next from at es → Apart (edits_before next from at es ++ w ∷ more)
    ahead_apart b m size from at [] h d = λ e. (b, m)
    ahead_apart b m size from at (f ∷ fs) h d =
        let q : ℕ = ends from at f in
        let a : ℕ = next.span.start in
        let later : ℕ = start_of next f.span.end q fs in
        two_tests (λ (before : List Edit) (s : ℕ). w.span.start ≡ s → Apart (before ++ w ∷ more)) (nat_lt q a) (f ∷ edits_before next f.span.end q fs) [] later (if nat_lt a (begins from at f) then from + (a - at) else f.span.start)
        (λ t e.
        let lt : q < a = ltb-true q a t in
        let s : f.span.end < later = strict_start size f.span.end q fs lt h.3 d.0 in
        (first_behind f.span.end f.span.end q fs d.0 (omega (arith, s, e)), ahead_apart b m size f.span.end q fs h.3 d.1 e))
        (λ t e. (b, m))

pub joined_apart : JoinedApart
joined_apart old es next h d =
    let more : Behind (end_of next 0 0 es) (edits_behind next 0 0 es) × Apart (edits_behind next 0 0 es) = behind_apart next (length old) 0 0 es h.0 d (inl (omega arith)) in
    ahead_apart next (joined_edit next es) (edits_behind next 0 0 es) more.0 more.1 (length old) 0 0 es h.0 d refl
