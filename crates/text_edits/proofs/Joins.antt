-- The edit that joins what it touches makes the same text.
use Rattle.std.proofs.Common.{◌≡◌, ◌≤◌, ◌<◌, ◌+◌, ◌-◌, ◌⊎◌, ℕ, Bool, true, false, cond, nat_lt, List, [], ◌∷◌, ◌++◌, length, take, drop, refl, sym, ap, ◌∙◌, inl, inr, arith, append_assoc, length-append, length-drop}
use Rattle.std.specs.Prelude.{slice_range}
use Rattle.std.proofs.lemmas.Bool.{cond_both, ltb-true, ltb-false}
use Rattle.std.proofs.lemmas.List.{drop-drop, drop_all, take_all, take-append-le, drop-append-le}
use Rattle.std.proofs.lemmas.List.Edits.{length-between}
use Rattle.text_edits.specs.declared.edit.Edit.{Edit}
use Rattle.text_edits.specs.Applied.{Ascend, applied, replaced_from}
use Rattle.text_edits.specs.Joined.{begins, ends, edits_before, edits_behind, start_of, end_of, text_before, text_behind, joined, JoinedAgree, JoinedAscend, JoinedKeeps}
use Rattle.text_edits.proofs.Parts.{take_over, drop_over, take_slice, drop_slice}

pub two_tests : {A B : Type 0} (S : A → B → Type 0) (c : Bool) (x x' : A) (y y' : B) → (c ≡ true → S x y) → (c ≡ false → S x' y') → S (cond c x x') (cond c y y')
two_tests S true x x' y y' t f = t refl
two_tests S false x x' y y' t f = f refl

three_tests : {A B C : Type 0} (S : A → B → C → Type 0) (c : Bool) (x x' : A) (y y' : B) (z z' : C) → (c ≡ true → S x y z) → (c ≡ false → S x' y' z') → S (cond c x x') (cond c y y') (cond c z z')
three_tests S true x x' y y' z z' t f = t refl
three_tests S false x x' y y' z z' t f = f refl

-- ---- where an edit begins and ends in the first text, by cases

module _ (next : Edit) where
  abbrev pub StartIs : ℕ → ℕ → Edit → List Edit → Type 0
  StartIs from at f fs =
      ((ends from at f < next.span.start) × (start_of next from at (f ∷ fs) ≡ start_of next f.span.end (ends from at f) fs))
      ⊎ (((next.span.start ≤ ends from at f) × (next.span.start < begins from at f) × (start_of next from at (f ∷ fs) ≡ from + (next.span.start - at)))
      ⊎ ((next.span.start ≤ ends from at f) × (begins from at f ≤ next.span.start) × (start_of next from at (f ∷ fs) ≡ f.span.start)))

  abbrev pub EndIs : ℕ → ℕ → Edit → List Edit → Type 0
  EndIs from at f fs =
      ((next.span.end < begins from at f) × (end_of next from at (f ∷ fs) ≡ from + (next.span.end - at)))
      ⊎ ((begins from at f ≤ next.span.end) × (end_of next from at (f ∷ fs) ≡ end_of next f.span.end (ends from at f) fs))

  pub start_is : (from at : ℕ) (f : Edit) (fs : List Edit) → StartIs from at f fs
  start_is from at f fs =
      let p : ℕ = begins from at f in
      let q : ℕ = ends from at f in
      let a : ℕ = next.span.start in
      let later : ℕ = start_of next f.span.end q fs in
      let here : ℕ = from + (a - at) in
      cond_both (nat_lt q a) later (cond (nat_lt a p) here f.span.start)
      (λ s. ((q < a) × (s ≡ later)) ⊎ (((a ≤ q) × (a < p) × (s ≡ here)) ⊎ ((a ≤ q) × (p ≤ a) × (s ≡ f.span.start))))
      (λ t. inl (ltb-true q a t, refl))
      (λ t. cond_both (nat_lt a p) here f.span.start
      (λ s. ((q < a) × (s ≡ later)) ⊎ (((a ≤ q) × (a < p) × (s ≡ here)) ⊎ ((a ≤ q) × (p ≤ a) × (s ≡ f.span.start))))
      (λ u. inr (inl (ltb-false q a t, ltb-true a p u, refl)))
      (λ u. inr (inr (ltb-false q a t, ltb-false a p u, refl))))

  pub end_is : (from at : ℕ) (f : Edit) (fs : List Edit) → EndIs from at f fs
  end_is from at f fs =
      let p : ℕ = begins from at f in
      let b : ℕ = next.span.end in
      let later : ℕ = end_of next f.span.end (ends from at f) fs in
      let here : ℕ = from + (b - at) in
      cond_both (nat_lt b p) here later (λ s. ((b < p) × (s ≡ here)) ⊎ ((p ≤ b) × (s ≡ later)))
      (λ t. inl (ltb-true b p t, refl))
      (λ t. inr (ltb-false b p t, refl))

  start_from_step : (from at : ℕ) (f : Edit) (fs : List Edit) → from ≤ f.span.start → f.span.start ≤ f.span.end → f.span.end ≤ start_of next f.span.end (ends from at f) fs → StartIs from at f fs → from ≤ start_of next from at (f ∷ fs)
  start_from_step from at f fs lo le later (inl x) = omega (arith, x.1, lo, le, later)
  start_from_step from at f fs lo le later (inr (inl x)) = omega (arith, x.2)
  start_from_step from at f fs lo le later (inr (inr x)) = omega (arith, x.2, lo)

  pub start_from : (size from at : ℕ) (es : List Edit) → Ascend from size es → from ≤ start_of next from at es
  start_from size from at [] h = omega arith
  start_from size from at (f ∷ fs) h = start_from_step from at f fs h.0 h.1 (start_from size f.span.end (ends from at f) fs h.3) (start_is from at f fs)

  end_from_step : (from at : ℕ) (f : Edit) (fs : List Edit) → from ≤ f.span.start → f.span.start ≤ f.span.end → f.span.end ≤ end_of next f.span.end (ends from at f) fs → EndIs from at f fs → from ≤ end_of next from at (f ∷ fs)
  end_from_step from at f fs lo le later (inl x) = omega (arith, x.1)
  end_from_step from at f fs lo le later (inr x) = omega (arith, x.1, lo, le, later)

  pub end_from : (size from at : ℕ) (es : List Edit) → Ascend from size es → from ≤ end_of next from at es
  end_from size from at [] h = omega arith
  end_from size from at (f ∷ fs) h = end_from_step from at f fs h.0 h.1 (end_from size f.span.end (ends from at f) fs h.3) (end_is from at f fs)

  module _ (span : next.span.start ≤ next.span.end) where
    start_end_step : (from at : ℕ) (f : Edit) (fs : List Edit) → from ≤ f.span.start → f.span.start ≤ f.span.end → start_of next f.span.end (ends from at f) fs ≤ end_of next f.span.end (ends from at f) fs
        → f.span.end ≤ end_of next f.span.end (ends from at f) fs → StartIs from at f fs → EndIs from at f fs → start_of next from at (f ∷ fs) ≤ end_of next from at (f ∷ fs)
    start_end_step from at f fs lo le both later (inl x) (inl y) = absurd (omega (arith, x.0, y.0, span))
    start_end_step from at f fs lo le both later (inl x) (inr y) = omega (arith, x.1, y.1, both)
    start_end_step from at f fs lo le both later (inr (inl x)) (inl y) = omega (arith, x.2, y.1, span)
    start_end_step from at f fs lo le both later (inr (inl x)) (inr y) = omega (arith, x.1, x.2, y.1, lo, le, later)
    start_end_step from at f fs lo le both later (inr (inr x)) (inl y) = absurd (omega (arith, x.1, y.0, span))
    start_end_step from at f fs lo le both later (inr (inr x)) (inr y) = omega (arith, x.2, y.1, le, later)

    pub start_end : (size from at : ℕ) (es : List Edit) → Ascend from size es → start_of next from at es ≤ end_of next from at es
    start_end size from at [] h = omega arith
    start_end size from at (f ∷ fs) h =
        start_end_step from at f fs h.0 h.1 (start_end size f.span.end (ends from at f) fs h.3) (end_from size f.span.end (ends from at f) fs h.3) (start_is from at f fs) (end_is from at f fs)

  -- ---- the text

  module _ (old : List ℕ) where
    behind : (from at : ℕ) (es : List Edit) → Ascend from (length old) es
        → text_behind next from at es ++ replaced_from old (end_of next from at es) (edits_behind next from at es) ≡ drop (next.span.end - at) (replaced_from old from es)
    behind from at [] h = sym (drop-drop (next.span.end - at) from old)
    behind from at (f ∷ fs) h =
        let p : ℕ = begins from at f in
        let q : ℕ = ends from at f in
        let b : ℕ = next.span.end in
        let part : List ℕ = slice_range old from f.span.start in
        let rest : List ℕ = replaced_from old f.span.end fs in
        let long : length part ≡ f.span.start - from = length-between old from f.span.start (omega (arith, h.1, h.2)) in
        three_tests (λ (t : List ℕ) (m : ℕ) (es : List Edit). t ++ replaced_from old m es ≡ drop (b - at) (part ++ (f.text ++ rest))) (nat_lt b p)
        [] (drop (b - p) f.text ++ text_behind next f.span.end q fs) (from + (b - at)) (end_of next f.span.end q fs) (f ∷ fs) (edits_behind next f.span.end q fs)
        (λ t.
        let lt : b < p = ltb-true b p t in
        sym (drop-append-le (b - at) part (f.text ++ rest) (omega arith) ∙ ap (λ zs. zs ++ (f.text ++ rest)) (drop_slice old from f.span.start (b - at) (omega arith))))
        (λ t.
        let ge : p ≤ b = ltb-false b p t in
        let none : drop (b - at) part ≡ [] = drop_all (b - at) part (omega arith) in
        let n : b - at - length part ≡ b - p = omega arith in
        let m : b - p - length f.text ≡ b - q = omega arith in
        append_assoc (drop (b - p) f.text) (text_behind next f.span.end q fs) _
        ∙ ap (λ zs. drop (b - p) f.text ++ zs) (behind f.span.end q fs h.3)
        ∙ sym (drop_over (b - at) part (f.text ++ rest) ∙ (λ i. none i ++ drop (n i) (f.text ++ rest)) ∙ drop_over (b - p) f.text rest ∙ ap (λ j. drop (b - p) f.text ++ drop j rest) m))

    module _ (till : ℕ) (kept : List ℕ) (more : List Edit) where
      ahead : (from at : ℕ) (es : List Edit) → Ascend from (length old) es
          → replaced_from old from (edits_before next from at es ++ record { span = record { start = start_of next from at es; end = till }; text = text_before next from at es ++ kept } ∷ more)
          ≡ take (next.span.start - at) (replaced_from old from es) ++ (kept ++ replaced_from old till more)
      ahead from at [] h =
          let n : from + (next.span.start - at) - from ≡ next.span.start - at = omega arith in
          ap (λ m. take m (drop from old) ++ (kept ++ replaced_from old till more)) n
      ahead from at (f ∷ fs) h =
          let p : ℕ = begins from at f in
          let q : ℕ = ends from at f in
          let a : ℕ = next.span.start in
          let part : List ℕ = slice_range old from f.span.start in
          let rest : List ℕ = replaced_from old f.span.end fs in
          let last : List ℕ = kept ++ replaced_from old till more in
          let long : length part ≡ f.span.start - from = length-between old from f.span.start (omega (arith, h.1, h.2)) in
          let n : a - at - length part ≡ a - p = omega arith in
          let m : a - p - length f.text ≡ a - q = omega arith in
          let front : take (a - at) (part ++ (f.text ++ rest)) ≡ take (a - at) part ++ take (a - p) (f.text ++ rest) =
          take_over (a - at) part (f.text ++ rest) ∙ ap (λ j. take (a - at) part ++ take j (f.text ++ rest)) n in
          three_tests
          (λ (before : List Edit) (s : ℕ) (t : List ℕ). replaced_from old from (before ++ record { span = record { start = s; end = till }; text = t ++ kept } ∷ more) ≡ take (a - at) (part ++ (f.text ++ rest)) ++ last)
          (nat_lt q a) (f ∷ edits_before next f.span.end q fs) [] (start_of next f.span.end q fs) (cond (nat_lt a p) (from + (a - at)) f.span.start) (text_before next f.span.end q fs) (take (a - p) f.text)
          (λ t.
          let lt : q < a = ltb-true q a t in
          let whole : take (a - at) part ≡ part = take_all (a - at) part (omega arith) in
          let text : take (a - p) f.text ≡ f.text = take_all (a - p) f.text (omega arith) in
          let inner : take (a - p) (f.text ++ rest) ≡ f.text ++ take (a - q) rest = take_over (a - p) f.text rest ∙ (λ i. text i ++ take (m i) rest) in
          let all : take (a - at) (part ++ (f.text ++ rest)) ≡ part ++ (f.text ++ take (a - q) rest) = front ∙ (λ i. whole i ++ inner i) in
          ap (λ zs. part ++ (f.text ++ zs)) (ahead f.span.end q fs h.3)
          ∙ sym (ap (λ zs. zs ++ last) all ∙ append_assoc part (f.text ++ take (a - q) rest) last ∙ ap (λ zs. part ++ zs) (append_assoc f.text (take (a - q) rest) last)))
          (λ t.
          let le : a ≤ q = ltb-false q a t in
          let inner : take (a - p) (f.text ++ rest) ≡ take (a - p) f.text = take-append-le (a - p) f.text rest (omega arith) in
          let to : take (a - at) part ≡ slice_range old from (cond (nat_lt a p) (from + (a - at)) f.span.start) =
          cond_both (nat_lt a p) (from + (a - at)) f.span.start (λ s. take (a - at) part ≡ slice_range old from s)
          (λ u. let lt : a < p = ltb-true a p u in take_slice old from f.span.start (a - at) (omega arith))
          (λ u. let ge : p ≤ a = ltb-false a p u in take_all (a - at) part (omega arith)) in
          let start : List ℕ = slice_range old from (cond (nat_lt a p) (from + (a - at)) f.span.start) in
          ap (λ zs. start ++ zs) (append_assoc (take (a - p) f.text) kept (replaced_from old till more))
          ∙ sym (ap (λ zs. zs ++ last) (front ∙ (λ i. to i ++ inner i)) ∙ append_assoc start (take (a - p) f.text) last))

  -- ---- the order

  pub ascend_fits : (from size : ℕ) (es : List Edit) → Ascend from size es → from ≤ size
  ascend_fits from size [] h = h
  ascend_fits from size (e ∷ es) h = omega (arith, h.0, h.1, h.2)

  ahead_ascends : (size till : ℕ) (t : List ℕ) (more : List Edit) → Ascend till size more → (from at : ℕ) (es : List Edit) → Ascend from size es → start_of next from at es ≤ till
      → Ascend from size (edits_before next from at es ++ record { span = record { start = start_of next from at es; end = till }; text = t } ∷ more)
  ahead_ascends size till t more up from at [] h = λ le. (omega arith, le, ascend_fits till size more up, up)
  ahead_ascends size till t more up from at (f ∷ fs) h =
      let p : ℕ = begins from at f in
      let q : ℕ = ends from at f in
      let a : ℕ = next.span.start in
      let lo : from ≤ f.span.start = h.0 in
      two_tests (λ (before : List Edit) (s : ℕ). s ≤ till → Ascend from size (before ++ record { span = record { start = s; end = till }; text = t } ∷ more))
      (nat_lt q a) (f ∷ edits_before next f.span.end q fs) [] (start_of next f.span.end q fs) (cond (nat_lt a p) (from + (a - at)) f.span.start)
      (λ u le. (h.0, h.1, h.2, ahead_ascends size till t more up f.span.end q fs h.3 le))
      (λ u le. (cond_both (nat_lt a p) (from + (a - at)) f.span.start (λ s. from ≤ s) (λ v. omega arith) (λ v. lo), le, ascend_fits till size more up, up))

  module _ (old : List ℕ) where
    behind_ascends : (from at : ℕ) (es : List Edit) → Ascend from (length old) es → next.span.end - at ≤ length (replaced_from old from es) → Ascend (end_of next from at es) (length old) (edits_behind next from at es)
    behind_ascends from at [] h le = let n : length (drop from old) ≡ length old - from = length-drop from old in omega (arith, h, le, n)
    behind_ascends from at (f ∷ fs) h le =
        let p : ℕ = begins from at f in
        let q : ℕ = ends from at f in
        let b : ℕ = next.span.end in
        let part : List ℕ = slice_range old from f.span.start in
        let rest : List ℕ = replaced_from old f.span.end fs in
        let long : length part ≡ f.span.start - from = length-between old from f.span.start (omega (arith, h.1, h.2)) in
        let l : length (part ++ (f.text ++ rest)) ≡ length part + length (f.text ++ rest) = length-append part (f.text ++ rest) in
        let m : length (f.text ++ rest) ≡ length f.text + length rest = length-append f.text rest in
        two_tests (λ (s : ℕ) (es : List Edit). Ascend s (length old) es) (nat_lt b p) (from + (b - at)) (end_of next f.span.end q fs) (f ∷ fs) (edits_behind next f.span.end q fs)
        (λ t. let lt : b < p = ltb-true b p t in (omega (arith, h.0, lt), h.1, h.2, h.3))
        (λ t. let ge : p ≤ b = ltb-false b p t in behind_ascends f.span.end q fs h.3 (omega (arith, le, l, m, long)))

-- ---- the laws

pub joined_agree : JoinedAgree
joined_agree old es next h =
    let now : List ℕ = applied old es in
    let till : ℕ = end_of next 0 0 es in
    let kept : List ℕ = next.text ++ text_behind next 0 0 es in
    let n : next.span.end - 0 ≡ next.span.end = omega arith in
    let rest : kept ++ replaced_from old till (edits_behind next 0 0 es) ≡ next.text ++ drop next.span.end now =
    append_assoc next.text (text_behind next 0 0 es) _ ∙ ap (λ zs. next.text ++ zs) (behind next old 0 0 es h.0 ∙ ap (λ k. drop k now) n) in
    ahead next old till kept (edits_behind next 0 0 es) 0 0 es h.0 ∙ ap (λ zs. take (next.span.start - 0) now ++ zs) rest

pub joined_ascend : JoinedAscend
joined_ascend old es next h =
    let fits : next.span.end ≤ length (applied old es) = h.2 in
    ahead_ascends next (length old) (end_of next 0 0 es) (text_before next 0 0 es ++ (next.text ++ text_behind next 0 0 es)) (edits_behind next 0 0 es)
    (behind_ascends next old 0 0 es h.0 (omega arith)) 0 0 es h.0 (start_end next h.1 (length old) 0 0 es h.0)

pub joined_keeps : JoinedKeeps
joined_keeps old new es next h e = record {
  edits = joined next es;
  ranges_are = refl;
  ascend = joined_ascend old es next h;
  replaced = ap (λ t. applied t (next ∷ [])) e ∙ sym (joined_agree old es next h);
}
