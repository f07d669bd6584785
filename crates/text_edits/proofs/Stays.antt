-- Each byte that no edit replaces stays.
use Rattle.std.proofs.Common.{◌≡◌, ◌≤◌, ◌<◌, ◌+◌, ◌-◌, ◌⊎◌, ℕ, nat_lt, List, [], ◌∷◌, ◌++◌, length, drop, get_or, refl, sym, ap, ◌∙◌, inl, inr, arith, append_assoc, length-append}
use Rattle.std.specs.Prelude.{slice_range}
use Rattle.std.proofs.lemmas.Bool.{cases_lt, cond_both, ltb-true, ltb-false}
use Rattle.std.proofs.lemmas.List.{get_or-append-add, get_or-drop, get_or_append_left}
use Rattle.std.proofs.lemmas.List.Edits.{length-between, get_or-between}
use Rattle.go_tree.specs.declared.spans.Span.{Span}
use Rattle.text_edits.specs.declared.edit.Edit.{Edit}
use Rattle.text_edits.specs.Spans.{Holds}
use Rattle.text_edits.specs.Applied.{Ascend, replaced_from}
use Rattle.text_edits.specs.Places.{BytesStay, IsOutside, place_from}

stands_before : (s : Span) (k : ℕ) → (Holds s k → ⊥) → k < s.end → (k < s.start) ⊎ (s.start ≤ k) → k < s.start
stands_before s k out lt (inl h) = h
stands_before s k out lt (inr h) = absurd (out (h, lt))

module _ (old : List ℕ) (k : ℕ) (inside : k < length old) where
  stays : (front : List ℕ) (from at : ℕ) (es : List Edit) → length front ≡ at → Ascend from (length old) es → from ≤ k → IsOutside k es
      → get_or (front ++ replaced_from old from es) (place_from from at es k) 0 ≡ get_or old k 0
  stays front from at [] l h lo o =
      let n : from + (k - from) ≡ k = omega arith in
      ap (λ m. get_or (front ++ drop from old) (m + (k - from)) 0) (sym l) ∙ get_or-append-add front (drop from old) (k - from) 0 ∙ get_or-drop from old (k - from) 0 ∙ ap (λ m. get_or old m 0) n
  stays front from at (e ∷ es) l h lo o =
      let part : List ℕ = slice_range old from e.span.start in
      let rest : List ℕ = replaced_from old e.span.end es in
      let to : ℕ = at + (e.span.start - from) + length e.text in
      let long : length part ≡ e.span.start - from = length-between old from e.span.start (omega (arith, h.1, h.2)) in
      cond_both (nat_lt k e.span.end) (at + (k - from)) (place_from e.span.end to es k) (λ m. get_or (front ++ (part ++ (e.text ++ rest))) m 0 ≡ get_or old k 0)
      (λ t.
      let lt : k < e.span.start = stands_before e.span k o.0 (ltb-true k e.span.end t) (cases_lt k e.span.start) in
      let n : from + (k - from) ≡ k = omega arith in
      ap (λ m. get_or (front ++ (part ++ (e.text ++ rest))) (m + (k - from)) 0) (sym l) ∙ get_or-append-add front (part ++ (e.text ++ rest)) (k - from) 0
      ∙ get_or_append_left part (e.text ++ rest) 0 (k - from) (omega arith) ∙ get_or-between old from e.span.start (k - from) 0 (omega arith) ∙ ap (λ m. get_or old m 0) n)
      (λ t.
      let ge : e.span.end ≤ k = ltb-false k e.span.end t in
      let all : front ++ (part ++ (e.text ++ rest)) ≡ (front ++ (part ++ e.text)) ++ rest =
      sym (append_assoc front (part ++ e.text) rest ∙ ap (λ zs. front ++ zs) (append_assoc part e.text rest)) in
      let m : length (front ++ (part ++ e.text)) ≡ length front + length (part ++ e.text) = length-append front (part ++ e.text) in
      let p : length (part ++ e.text) ≡ length part + length e.text = length-append part e.text in
      ap (λ zs. get_or zs (place_from e.span.end to es k) 0) all ∙ stays (front ++ (part ++ e.text)) e.span.end to es (omega (arith, m, p, long, l)) h.3 ge o.1)

pub bytes_stay : BytesStay
bytes_stay old es k h lt o = stays old k lt [] 0 0 es refl h (omega arith) o
