-- Lines, their blanks, and what is widened over them.
use Rattle.std.proofs.Common.{◌≡◌, ◌≤◌, ◌<◌, ◌+◌, ◌-◌, ◌⊎◌, ℕ, zero, suc, Bool, true, false, not, ◌&&◌, cond, List, [], ◌∷◌, length, take, drop, reverse, get_or, refl, subst, ap, ◌∙◌, inl, inr, arith}
use Rattle.std.specs.List.{list_all, prefix_len}
use Rattle.std.proofs.lemmas.Bool.{cases_lt, cond_both, and_parts, and_from, and_left, and_right, both_ways}
use Rattle.std.proofs.lemmas.List.{length-take-le, length-drop, get_or-take, get_or-drop, get_or-reverse}
use Rattle.go_tree.specs.declared.spans.Span.{Span}
use Rattle.go_tree.specs.GoWords.Tokens.Characters.{is_blank}
use Rattle.run_rules.specs.ImportRules.Removed.{is_newline, bytes_to_newline, line_start, newline_size, line_end, stands_alone, widened}
use Rattle.run_rules.specs.ImportRules.Laid.{IsInk}

-- ---- lists

pub all_at : (p : ℕ → Bool) (xs : List ℕ) (i d : ℕ) → list_all p xs ≡ true → i < length xs → p (get_or xs i d) ≡ true
all_at p [] i d e lt = absurd (omega arith)
all_at p (x ∷ xs) zero d e lt = (and_parts (p x) (list_all p xs) e).0
all_at p (x ∷ xs) (suc i) d e lt = all_at p xs i d (and_parts (p x) (list_all p xs) e).1 (omega arith)

prefix_step : (p : ℕ → Bool) (x : ℕ) (xs : List ℕ) (d : ℕ) → ((i : ℕ) → i < prefix_len p xs → p (get_or xs i d) ≡ true) → (b : Bool) → p x ≡ b → (i : ℕ) → i < cond b (1 + prefix_len p xs) 0 → p (get_or (x ∷ xs) i d) ≡ true
prefix_step p x xs d h true e zero lt = e
prefix_step p x xs d h true e (suc i) lt = h i (omega arith)
prefix_step p x xs d h false e i lt = absurd (omega arith)

prefix_at : (p : ℕ → Bool) (xs : List ℕ) (d i : ℕ) → i < prefix_len p xs → p (get_or xs i d) ≡ true
prefix_at p [] d i lt = absurd (omega arith)
prefix_at p (x ∷ xs) d i lt = prefix_step p x xs d (prefix_at p xs d) (p x) refl i lt

prefix_fits_step : (m n : ℕ) (b : Bool) → m ≤ n → cond b (1 + m) 0 ≤ suc n
prefix_fits_step m n true le = omega arith
prefix_fits_step m n false le = omega arith

prefix_fits : (p : ℕ → Bool) (xs : List ℕ) → prefix_len p xs ≤ length xs
prefix_fits p [] = omega arith
prefix_fits p (x ∷ xs) = prefix_fits_step (prefix_len p xs) (length xs) (p x) (prefix_fits p xs)

prefix_end_step : (p : ℕ → Bool) (x : ℕ) (xs : List ℕ) (d : ℕ) → (prefix_len p xs < length xs → p (get_or xs (prefix_len p xs) d) ≡ false) → (b : Bool) → p x ≡ b → cond b (1 + prefix_len p xs) 0 < suc (length xs) → p (get_or (x ∷ xs) (cond b (1 + prefix_len p xs) 0) d) ≡ false
prefix_end_step p x xs d h true e lt =
    let one : suc (prefix_len p xs) ≡ 1 + prefix_len p xs = omega arith in
    subst (λ (k : ℕ). p (get_or (x ∷ xs) k d) ≡ false) one (h (omega arith))
prefix_end_step p x xs d h false e lt = e

prefix_end : (p : ℕ → Bool) (xs : List ℕ) (d : ℕ) → prefix_len p xs < length xs → p (get_or xs (prefix_len p xs) d) ≡ false
prefix_end p [] d lt = absurd (omega arith)
prefix_end p (x ∷ xs) d lt = prefix_end_step p x xs d (prefix_end p xs d) (p x) refl lt

-- ---- lines

abbrev pub no_newline : ℕ → Bool
no_newline b = not (is_newline b)

abbrev is_gap : ℕ → Bool
is_gap b = is_blank b && not (is_newline b)

size_le : (l : List ℕ) → newline_size l ≤ length l
size_le [] = omega arith
size_le (b ∷ bs) = omega arith

size_one : (l : List ℕ) → 0 < length l → newline_size l ≡ 1
size_one [] lt = absurd (omega arith)
size_one (b ∷ bs) lt = refl

module _ (text : List ℕ) where
  -- An offset before which the line's blanks don't go on: the start or the end of the text, or behind a newline or a byte that is no blank.
  abbrev pub IsStop : ℕ → Type 0
  IsStop p = 0 < p → p < length text → is_gap (get_or text (p - 1) 32) ≡ false

  pub ink_stops : (p : ℕ) → IsInk text (p - 1) → IsStop p
  ink_stops p e = λ a b. and_left (is_blank (get_or text (p - 1) 32)) (no_newline (get_or text (p - 1) 32)) e

  on_line : (at k : ℕ) → at ≤ length text → line_start text at ≤ k → k < at → no_newline (get_or text k 32) ≡ true
  on_line at k le lo lt =
      let front : List ℕ = take at text in
      let long : length front ≡ at = length-take-le at text le in
      let i : ℕ = at - 1 - k in
      let n : ℕ = bytes_to_newline (reverse front) in
      let inside : i < n = omega (arith, lo, lt) in
      let h : no_newline (get_or (reverse front) i 32) ≡ true = prefix_at no_newline (reverse front) 32 i inside in
      let turned : get_or (reverse front) i 32 ≡ get_or front (length front - 1 - i) 32 = get_or-reverse front i 32 (omega arith) in
      let place : length front - 1 - i ≡ k = omega arith in
      let there : get_or front k 32 ≡ get_or text k 32 = get_or-take at text k 32 lt in
      subst (λ (b : ℕ). no_newline b ≡ true) (turned ∙ ap (λ (m : ℕ). get_or front m 32) place ∙ there) h

  front_blank : (from at k : ℕ) → at ≤ length text → list_all is_blank (drop from (take at text)) ≡ true → from ≤ k → k < at → is_blank (get_or text k 32) ≡ true
  front_blank from at k le e lo lt =
      let front : List ℕ = take at text in
      let long : length front ≡ at = length-take-le at text le in
      let size : length (drop from front) ≡ length front - from = length-drop from front in
      let h : is_blank (get_or (drop from front) (k - from) 32) ≡ true = all_at is_blank (drop from front) (k - from) 32 e (omega arith) in
      let place : from + (k - from) ≡ k = omega arith in
      let there : get_or front k 32 ≡ get_or text k 32 = get_or-take at text k 32 lt in
      subst (λ (b : ℕ). is_blank b ≡ true) (get_or-drop from front (k - from) 32 ∙ ap (λ (m : ℕ). get_or front m 32) place ∙ there) h

  back_blank : (at to k : ℕ) → list_all is_blank (take (to - at) (drop at text)) ≡ true → at ≤ k → k < to → to ≤ length text → is_blank (get_or text k 32) ≡ true
  back_blank at to k e lo lt le =
      let back : List ℕ = drop at text in
      let size : length back ≡ length text - at = length-drop at text in
      let long : length (take (to - at) back) ≡ to - at = length-take-le (to - at) back (omega arith) in
      let h : is_blank (get_or (take (to - at) back) (k - at) 32) ≡ true = all_at is_blank (take (to - at) back) (k - at) 32 e (omega arith) in
      let place : at + (k - at) ≡ k = omega arith in
      let there : get_or (take (to - at) back) (k - at) 32 ≡ get_or back (k - at) 32 = get_or-take (to - at) back (k - at) 32 (omega arith) in
      subst (λ (b : ℕ). is_blank b ≡ true) (there ∙ get_or-drop at text (k - at) 32 ∙ ap (λ (m : ℕ). get_or text m 32) place) h

  end_fits : (at : ℕ) → at ≤ length text → line_end text at ≤ length text
  end_fits at le =
      let back : List ℕ = drop at text in
      let m : ℕ = bytes_to_newline back in
      let size : length back ≡ length text - at = length-drop at text in
      let fits : m ≤ length back = prefix_fits no_newline back in
      let rest : length (drop m back) ≡ length back - m = length-drop m back in
      let one : newline_size (drop m back) ≤ length (drop m back) = size_le (drop m back) in
      omega (arith, size, fits, rest, one, le)

  end_stops : (at : ℕ) → at ≤ length text → IsStop (line_end text at)
  end_stops at le positive lt =
      let back : List ℕ = drop at text in
      let m : ℕ = bytes_to_newline back in
      let size : length back ≡ length text - at = length-drop at text in
      let fits : m ≤ length back = prefix_fits no_newline back in
      let rest : length (drop m back) ≡ length back - m = length-drop m back in
      let more : m < length back = omega (arith, size, fits, lt) in
      let one : newline_size (drop m back) ≡ 1 = size_one (drop m back) (omega (arith, rest, more)) in
      let place : at + m ≡ line_end text at - 1 = omega (arith, one) in
      let h : no_newline (get_or back m 32) ≡ false = prefix_end no_newline back 32 more in
      let k : no_newline (get_or text (line_end text at - 1) 32) ≡ false = subst (λ (b : ℕ). no_newline b ≡ false) (get_or-drop at text m 32 ∙ ap (λ (j : ℕ). get_or text j 32) place) h in
      and_right (is_blank (get_or text (line_end text at - 1) 32)) (no_newline (get_or text (line_end text at - 1) 32)) k

  -- ---- what is widened

  pub record Widens (s w : Span) : Type 0 where
    pub starts : w.start ≤ s.start
    pub ends : s.end ≤ w.end
    pub within : w.end ≤ length text
    pub stops : IsStop w.end
    pub behind : (p : ℕ) → IsStop p → p ≤ s.start → p ≤ w.start
    pub before : (n : ℕ) → IsInk text n → s.end ≤ n → w.end ≤ n

  module _ (s : Span) (start_within : s.start < length text) (end_within : s.end ≤ length text) (stop : IsStop s.end) where
    stays_behind : list_all is_blank (drop (line_start text s.start) (take s.start text)) ≡ true → (p : ℕ) → IsStop p → p ≤ s.start → (line_start text s.start < p) ⊎ (p ≤ line_start text s.start) → p ≤ line_start text s.start
    stays_behind e p st le (inr h) = h
    stays_behind e p st le (inl h) =
        let blank : is_blank (get_or text (p - 1) 32) ≡ true = front_blank (line_start text s.start) s.start (p - 1) (omega arith) e (omega arith) (omega arith) in
        let line : no_newline (get_or text (p - 1) 32) ≡ true = on_line s.start (p - 1) (omega arith) (omega arith) (omega arith) in
        absurd (both_ways (is_gap (get_or text (p - 1) 32)) (st (omega arith) (omega arith)) (and_from (is_blank (get_or text (p - 1) 32)) (no_newline (get_or text (p - 1) 32)) blank line))

    stays_before : list_all is_blank (take (line_end text s.end - s.end) (drop s.end text)) ≡ true → (n : ℕ) → IsInk text n → s.end ≤ n → (n < line_end text s.end) ⊎ (line_end text s.end ≤ n) → line_end text s.end ≤ n
    stays_before e n ink le (inr h) = h
    stays_before e n ink le (inl h) =
        let blank : is_blank (get_or text n 32) ≡ true = back_blank s.end (line_end text s.end) n e le h (end_fits s.end end_within) in
        absurd (both_ways (is_blank (get_or text n 32)) ink blank)

    abbrev front : Bool
    front = list_all is_blank (drop (line_start text s.start) (take s.start text))

    abbrev back : Bool
    back = list_all is_blank (take (line_end text s.end - s.end) (drop s.end text))

    lines : (front && back) ≡ true → Widens s (record { start = line_start text s.start; end = line_end text s.end })
    lines e =
        let parts : (front ≡ true) × (back ≡ true) = and_parts front back e in
        record {
          starts = omega arith;
          ends = omega arith;
          within = end_fits s.end end_within;
          stops = end_stops s.end end_within;
          behind = λ p st le. stays_behind parts.0 p st le (cases_lt (line_start text s.start) p);
          before = λ n ink le. stays_before parts.1 n ink le (cases_lt n (line_end text s.end));
        }

    pub widens : Widens s (widened text s)
    widens = cond_both (stands_alone text s) (record { start = line_start text s.start; end = line_end text s.end }) s (λ (w : Span). Widens s w) (λ t. lines t) (λ t. record {
      starts = omega arith;
      ends = omega arith;
      within = end_within;
      stops = stop;
      behind = λ p st le. le;
      before = λ n ink le. le;
    })
