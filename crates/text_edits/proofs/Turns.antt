-- Edits made in turn make what they make together.
use Rattle.std.proofs.Common.{◌≡◌, ◌≤◌, ◌+◌, ◌-◌, ℕ, List, [], ◌∷◌, ◌++◌, length, take, drop, map, refl, sym, ap, ◌∙◌, subst, arith, append_assoc, length-append, length-drop}
use Rattle.std.specs.Prelude.{slice_range}
use Rattle.std.proofs.lemmas.List.{drop-drop, take-append-le, drop-append-le, take_at, drop_at}
use Rattle.std.proofs.lemmas.List.Edits.{length-between}
use Rattle.std.proofs.lemmas.List.Folds.{drop_split}
use Rattle.text_edits.specs.declared.edit.Edit.{Edit}
use Rattle.text_edits.specs.Spans.{IsSpan}
use Rattle.text_edits.specs.Applied.{Ascend, applied, replaced_from}
use Rattle.text_edits.specs.InTurn.{InTurn, TurnsAgree, moved_by, moved_offset}
use Rattle.text_edits.specs.InTurn.InTurn.{done, next}
use Rattle.text_edits.proofs.Parts.{take_slice, drop_slice, slice_split}

-- ---- where the edits begin

pub ascend_from : (from mid size : ℕ) (es : List Edit) → from ≤ mid → Ascend mid size es → Ascend from size es
ascend_from from mid size [] le h = omega arith
ascend_from from mid size (e ∷ es) le h = (omega (arith, h.0), h.1, h.2, h.3)

pub replaced_later : (old : List ℕ) (from mid size : ℕ) (es : List Edit) → from ≤ mid → Ascend mid size es → replaced_from old from es ≡ slice_range old from mid ++ replaced_from old mid es
replaced_later old from mid size [] le h = drop_split old from mid le
replaced_later old from mid size (e ∷ es) le h =
    ap (λ zs. zs ++ (e.text ++ replaced_from old e.span.end es)) (slice_split old from mid e.span.start le h.0) ∙ append_assoc (slice_range old from mid) _ _

ascend_to : (from size : ℕ) (front back : List Edit) (e : Edit) → Ascend from size (front ++ e ∷ back) → (from ≤ e.span.start) × (e.span.start ≤ e.span.end) × (e.span.end ≤ size)
ascend_to from size [] back e h = (h.0, h.1, h.2)
ascend_to from size (f ∷ front) back e h =
    let r : (f.span.end ≤ e.span.start) × (e.span.start ≤ e.span.end) × (e.span.end ≤ size) = ascend_to f.span.end size front back e h.3 in
    (omega (arith, h.0, h.1, r.0), r.1, r.2)

-- ---- one edit is made

module _ (e : Edit) (span : IsSpan e.span) where
  ascend_moved : (k size : ℕ) (es : List Edit) → e.span.end ≤ k → Ascend k size es → Ascend (moved_offset e k) (moved_offset e size) (map (moved_by e) es)
  ascend_moved k size [] le h = omega arith
  ascend_moved k size (f ∷ fs) le h =
      (omega (arith, h.0), omega (arith, h.1), omega (arith, h.2), ascend_moved f.span.end size fs (omega (arith, h.0, h.1)) h.3)

  moved_part : (old new : List ℕ) (k k' size : ℕ) (es : List Edit) → e.span.end ≤ k → Ascend k size es → k' ≡ moved_offset e k → drop k' new ≡ drop k old
      → replaced_from new k' (map (moved_by e) es) ≡ replaced_from old k es
  moved_part old new k k' size [] le h m same = same
  moved_part old new k k' size (f ∷ fs) le h m same =
      let lo : k ≤ f.span.start = h.0 in
      let hi : f.span.start ≤ f.span.end = h.1 in
      let n : moved_offset e f.span.start - k' ≡ f.span.start - k = omega arith in
      let to : moved_offset e f.span.end ≡ k' + (f.span.end - k) = omega arith in
      let was : k + (f.span.end - k) ≡ f.span.end = omega arith in
      let part : slice_range new k' (moved_offset e f.span.start) ≡ slice_range old k f.span.start = λ i. take (n i) (same i) in
      let rest : drop (moved_offset e f.span.end) new ≡ drop f.span.end old =
      ap (λ j. drop j new) to ∙ sym (drop-drop (f.span.end - k) k' new) ∙ ap (drop (f.span.end - k)) same ∙ drop-drop (f.span.end - k) k old ∙ ap (λ j. drop j old) was in
      let all : replaced_from new (moved_offset e f.span.end) (map (moved_by e) fs) ≡ replaced_from old f.span.end fs =
      moved_part old new f.span.end (moved_offset e f.span.end) size fs (omega arith) h.3 refl rest in
      λ i. part i ++ (f.text ++ all i)

  module _ (old : List ℕ) (fits : e.span.end ≤ length old) where
    abbrev new : List ℕ
    new = applied old (e ∷ [])

    abbrev lead : List ℕ
    lead = slice_range old 0 e.span.start

    abbrev tail : List ℕ
    tail = drop e.span.end old

    length-lead : length lead ≡ e.span.start
    length-lead = let n : e.span.start - 0 ≡ e.span.start = omega arith in length-between old 0 e.span.start (omega (arith, span, fits)) ∙ n

    pub length_new : length new ≡ moved_offset e (length old)
    length_new =
        let n : length new ≡ length lead + length (e.text ++ tail) = length-append lead (e.text ++ tail) in
        let m : length (e.text ++ tail) ≡ length e.text + length tail = length-append e.text tail in
        let t : length tail ≡ length old - e.span.end = length-drop e.span.end old in
        let l : length lead ≡ e.span.start = length-lead in
        omega (arith, n, m, t, l, span, fits)

    same_before : (i j : ℕ) → i ≤ j → j ≤ e.span.start → slice_range new i j ≡ slice_range old i j
    same_before i j p q =
        let l : length lead ≡ e.span.start = length-lead in
        let rest : drop i new ≡ drop i lead ++ (e.text ++ tail) = drop-append-le i lead (e.text ++ tail) (omega arith) in
        let d : length (drop i lead) ≡ length lead - i = length-drop i lead in
        let first : 0 + i ≡ i = omega arith in
        let at : drop i lead ≡ slice_range old i e.span.start = drop_slice old 0 e.span.start i (omega arith) ∙ ap (λ k. slice_range old k e.span.start) first in
        let n : i + (j - i) ≡ j = omega arith in
        ap (take (j - i)) rest ∙ take-append-le (j - i) (drop i lead) (e.text ++ tail) (omega arith) ∙ ap (take (j - i)) at ∙ take_slice old i e.span.start (j - i) (omega arith) ∙ ap (slice_range old i) n

    new_text : slice_range new e.span.start (e.span.start + length e.text) ≡ e.text
    new_text =
        let n : e.span.start + length e.text - e.span.start ≡ length e.text = omega arith in
        ap (take (e.span.start + length e.text - e.span.start)) (drop_at lead (e.text ++ tail) e.span.start length-lead) ∙ take_at e.text tail (e.span.start + length e.text - e.span.start) (sym n)

    new_tail : drop (e.span.start + length e.text) new ≡ tail
    new_tail =
        ap (drop (e.span.start + length e.text)) (sym (append_assoc lead e.text tail))
        ∙ drop_at (lead ++ e.text) tail (e.span.start + length e.text) (length-append lead e.text ∙ ap (λ n. n + length e.text) length-lead)

    to_new_text : (from : ℕ) → from ≤ e.span.start → slice_range new from (e.span.start + length e.text) ≡ slice_range old from e.span.start ++ e.text
    to_new_text from le =
        slice_split new from e.span.start (e.span.start + length e.text) le (omega arith) ∙ (λ i. same_before from e.span.start le (omega arith) i ++ new_text i)

    -- the edit, made first
    made_first : (from : ℕ) (front back : List Edit) → Ascend from (length old) (front ++ e ∷ back) → replaced_from old from (front ++ e ∷ back) ≡ replaced_from new from (front ++ map (moved_by e) back)
    made_first from [] back h =
        let m : moved_offset e e.span.end ≡ e.span.start + length e.text = omega (arith, span) in
        let up : Ascend (e.span.start + length e.text) (moved_offset e (length old)) (map (moved_by e) back) =
        subst (λ k. Ascend k (moved_offset e (length old)) (map (moved_by e) back)) m (ascend_moved e.span.end (length old) back (omega arith) h.3) in
        let rest : replaced_from new (e.span.start + length e.text) (map (moved_by e) back) ≡ replaced_from old e.span.end back =
        moved_part old new e.span.end (e.span.start + length e.text) (length old) back (omega arith) h.3 (sym m) new_tail in
        let lo : from ≤ e.span.start = h.0 in
        let part : slice_range new from (e.span.start + length e.text) ≡ slice_range old from e.span.start ++ e.text = to_new_text from lo in
        sym (replaced_later new from (e.span.start + length e.text) (moved_offset e (length old)) (map (moved_by e) back) (omega arith) up
        ∙ (λ i. part i ++ rest i) ∙ append_assoc (slice_range old from e.span.start) e.text (replaced_from old e.span.end back))
    made_first from (f ∷ front) back h =
        let r : (f.span.end ≤ e.span.start) × (e.span.start ≤ e.span.end) × (e.span.end ≤ length old) = ascend_to f.span.end (length old) front back e h.3 in
        let same : slice_range new from f.span.start ≡ slice_range old from f.span.start = same_before from f.span.start h.0 (omega (arith, h.1, r.0)) in
        let rest : replaced_from old f.span.end (front ++ e ∷ back) ≡ replaced_from new f.span.end (front ++ map (moved_by e) back) = made_first f.span.end front back h.3 in
        λ i. sym same i ++ (f.text ++ rest i)

    ascend_rest : (from : ℕ) (front back : List Edit) → Ascend from (length old) (front ++ e ∷ back) → Ascend from (moved_offset e (length old)) (front ++ map (moved_by e) back)
    ascend_rest from [] back h =
        ascend_from from (moved_offset e e.span.end) (moved_offset e (length old)) (map (moved_by e) back) (omega (arith, h.0, span)) (ascend_moved e.span.end (length old) back (omega arith) h.3)
    ascend_rest from (f ∷ front) back h =
        let r : (f.span.end ≤ e.span.start) × (e.span.start ≤ e.span.end) × (e.span.end ≤ length old) = ascend_to f.span.end (length old) front back e h.3 in
        (h.0, h.1, omega (arith, r.0, fits, span), ascend_rest f.span.end front back h.3)

in_turn : (text new : List ℕ) (es : List Edit) → InTurn text es new → Ascend 0 (length text) es → new ≡ applied text es
in_turn _ _ _ (done text) h = refl
in_turn _ _ _ (next text new front back e t) h =
    let r : (0 ≤ e.span.start) × (e.span.start ≤ e.span.end) × (e.span.end ≤ length text) = ascend_to 0 (length text) front back e h in
    let up : Ascend 0 (length (applied text (e ∷ []))) (front ++ map (moved_by e) back) =
    subst (λ n. Ascend 0 n (front ++ map (moved_by e) back)) (sym (length_new e r.1 text r.2)) (ascend_rest e r.1 text r.2 0 front back h) in
    in_turn (applied text (e ∷ [])) new (front ++ map (moved_by e) back) t up ∙ sym (made_first e r.1 text r.2 0 front back h)

pub turns_agree : TurnsAgree
turns_agree text new es h t = in_turn text new es t h
