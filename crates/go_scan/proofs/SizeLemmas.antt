-- Sizes in bytes and lengths in characters.
use Rattle.std.proofs.Common.{◌≡◌, ◌≢◌, ℕ, zero, suc, ◌+◌, ◌≤◌, Bool, true, false, cond, ◌==◌, List, [], ◌∷◌, ◌++◌, length, take, drop, Option, Some, None, refl, sym, ap, subst, ◌∙◌, arith, length-append, append_assoc, one-add, encode_utf8, encode_utf8_all, IsUtf8}
use Rattle.std.specs.List.{prefix_len}
use Rattle.std.proofs.lemmas.Bool.Decides.{nat_tests}
use Rattle.std.specs.Char.{len_utf8}
use Rattle.std.specs.Str.{chars, all_scalars, IsCharBoundary}
use Rattle.std.proofs.lemmas.List.{take-append-drop}
use Rattle.std.proofs.lemmas.Str.{chars-encodes, encodes-append, encodes-chars, scalars-chars, length-encode, IsCharBoundary-at_seam, chars_past_char, IsUtf8-past_char, chars-nil}
use lib.Utf8.{scalar}
use Rattle.go_tree.specs.GoWords.Tokens.{size_of}
use Rattle.go_tree.specs.GoWords.Tokens.Pieces.{PieceKind}
use Rattle.go_scan.specs.declared.automaton.TheConstants.{DEAD}
use Rattle.go_scan.specs.Automaton.{next_of, is_whole, longest_from}
use Rattle.go_scan.specs.Pieces.{Exact}
use Rattle.go_scan.proofs.Derivatives.{and_parts, and_true}
use Rattle.go_scan.specs.Sizes.{size_while, found_by, longest_by_size, sized, ExactSize}

size_first : (c : ℕ) (cs : List ℕ) → size_of (c ∷ cs) ≡ len_utf8 c + size_of cs
size_first c cs = let sizes = length-append (encode_utf8 c) (encode_utf8_all cs) in let first = length-encode c in omega (arith, sizes, first)

pub while_size : (passes : ℕ → Bool) (cs : List ℕ) → size_while passes cs ≡ size_of (take (prefix_len passes cs) cs)
while_size passes [] = refl
while_size passes (c ∷ cs) = by_first (passes c) (while_size passes cs)
  where
    by_first : (b : Bool) → size_while passes cs ≡ size_of (take (prefix_len passes cs) cs)
        → cond b (len_utf8 c + size_while passes cs) 0 ≡ size_of (take (cond b (1 + prefix_len passes cs) 0) (c ∷ cs))
    by_first true ih = rw one-add (ap (λ (n : ℕ). len_utf8 c + n) ih ∙ sym (size_first c (take (prefix_len passes cs) cs)))
    by_first false ih = refl

-- ---- a text that is cut after some characters

scalar_parts : (c : ℕ) (cs : List ℕ) → all_scalars (c ∷ cs) ≡ true → (scalar c ≡ true) × (all_scalars cs ≡ true)
scalar_parts c cs h = and_parts (scalar c) (all_scalars cs) h

scalars_taken : (n : ℕ) (cs : List ℕ) → all_scalars cs ≡ true → (all_scalars (take n cs) ≡ true) × (all_scalars (drop n cs) ≡ true)
scalars_taken zero cs h = (refl, h)
scalars_taken (suc n) [] h = (refl, refl)
scalars_taken (suc n) (c ∷ cs) h =
    let p = scalar_parts c cs h in let q = scalars_taken n cs p.1 in (and_true (scalar c) (all_scalars (take n cs)) p.0 q.0, q.1)

pub take_front : (xs ys : List ℕ) → take (length xs) (xs ++ ys) ≡ xs
take_front [] ys = refl
take_front (x ∷ xs) ys = ap (λ (zs : List ℕ). x ∷ zs) (take_front xs ys)

pub drop_front : (xs ys : List ℕ) → drop (length xs) (xs ++ ys) ≡ ys
drop_front [] ys = refl
drop_front (x ∷ xs) ys = drop_front xs ys

module _ (text : List ℕ) (utf8 : IsUtf8 text) (n size : ℕ) (is : size ≡ size_of (take n (chars text))) where
  parts : text ≡ encode_utf8_all (take n (chars text)) ++ encode_utf8_all (drop n (chars text))
  parts = sym (encodes-chars text utf8) ∙ ap encode_utf8_all (sym (take-append-drop n (chars text))) ∙ encodes-append (take n (chars text)) (drop n (chars text))

  scalars : (all_scalars (take n (chars text)) ≡ true) × (all_scalars (drop n (chars text)) ≡ true)
  scalars = scalars_taken n (chars text) (scalars-chars text utf8)

  front : take size text ≡ encode_utf8_all (take n (chars text))
  front = ap (λ (k : ℕ). take k text) is ∙ ap (take (size_of (take n (chars text)))) parts ∙ take_front (encode_utf8_all (take n (chars text))) (encode_utf8_all (drop n (chars text)))

  back : drop size text ≡ encode_utf8_all (drop n (chars text))
  back = ap (λ (k : ℕ). drop k text) is ∙ ap (drop (size_of (take n (chars text)))) parts ∙ drop_front (encode_utf8_all (take n (chars text))) (encode_utf8_all (drop n (chars text)))

  pub cut_boundary : IsCharBoundary text size
  cut_boundary = subst (λ (k : ℕ). IsCharBoundary text k) (sym is)
      (IsCharBoundary-at_seam text (encode_utf8_all (take n (chars text))) (encode_utf8_all (drop n (chars text))) parts (drop n (chars text), (scalars.1, refl)))

  pub cut_front : chars (take size text) ≡ take n (chars text)
  cut_front = ap chars front ∙ chars-encodes (take n (chars text)) scalars.0

  pub cut_back : chars (drop size text) ≡ drop n (chars text)
  cut_back = ap chars back ∙ chars-encodes (drop n (chars text)) scalars.1

  pub cut_back_utf8 : IsUtf8 (drop size text)
  cut_back_utf8 = (drop n (chars text), (scalars.1, sym back))

  pub cut_within : size ≤ length text
  cut_within = let sizes = ap length parts ∙ length-append (encode_utf8_all (take n (chars text))) (encode_utf8_all (drop n (chars text))) in omega (arith, sizes, is)

-- ---- the longest whole word

append_last : (xs : List ℕ) (y : ℕ) (zs : List ℕ) → (xs ++ y ∷ []) ++ zs ≡ xs ++ y ∷ zs
append_last xs y zs = append_assoc xs (y ∷ []) zs

module _ (text : List ℕ) where
  module _ (c : ℕ) (cs pre : List ℕ) (e : text ≡ pre ++ c ∷ cs) (size len : ℕ) (s : size ≡ size_of pre) (l : len ≡ length pre) where
    e_on : text ≡ (pre ++ c ∷ []) ++ cs
    e_on = e ∙ sym (append_last pre c cs)

    size_on : size + len_utf8 c ≡ size_of (pre ++ c ∷ [])
    size_on =
        let parts = ap length (encodes-append pre (c ∷ [])) ∙ length-append (encode_utf8_all pre) (encode_utf8_all (c ∷ [])) in
        let first = size_first c [] in omega (arith, parts, first, s)

    len_on : len + 1 ≡ length (pre ++ c ∷ [])
    len_on = let parts = length-append pre (c ∷ []) in omega (arith, parts, l)

    taken : size + len_utf8 c ≡ size_of (take (len + 1) text)
    taken = size_on ∙ ap size_of (sym (ap (λ (k : ℕ). take k text) len_on ∙ ap (take (length (pre ++ c ∷ []))) e_on ∙ take_front (pre ++ c ∷ []) cs))

    found_on : (state : ℕ) (found known : Option (ℕ × ℕ)) → known ≡ sized text found → (b : Bool)
        → cond b (Some (state, size + len_utf8 c)) known ≡ sized text (cond b (Some (state, len + 1)) found)
    found_on state found known k true = ap (λ (n : ℕ). Some (state, n)) taken
    found_on state found known k false = k

  by_dead : (b : Bool) (known other : Option (ℕ × ℕ)) (found more : Option (ℕ × ℕ)) → known ≡ sized text found → other ≡ sized text more
      → cond b known other ≡ sized text (cond b found more)
  by_dead true known other found more k o = k
  by_dead false known other found more k o = o

  longest_step : (cs pre : List ℕ) → text ≡ pre ++ cs → (state size len : ℕ) → size ≡ size_of pre → len ≡ length pre → (found : Option (ℕ × ℕ)) (known : Option (ℕ × ℕ)) → known ≡ sized text found
      → longest_by_size state size known cs ≡ sized text (longest_from state len found cs)
  unfolding longest_by_size longest_from
  longest_step [] pre e state size len s l found known k = k
  longest_step (c ∷ cs) pre e state size len s l found known k =
      by_dead (next_of state c == DEAD) known (longest_by_size (next_of state c) (size + len_utf8 c) (found_by known (next_of state c) (size + len_utf8 c)) cs)
      found (longest_from (next_of state c) (len + 1) (cond (is_whole (next_of state c)) (Some (next_of state c, len + 1)) found) cs) k
      (longest_step cs (pre ++ c ∷ []) (e_on c cs pre e size len s l) (next_of state c) (size + len_utf8 c) (len + 1) (size_on c cs pre e size len s l) (len_on c cs pre e size len s l)
      (cond (is_whole (next_of state c)) (Some (next_of state c, len + 1)) found) (found_by known (next_of state c) (size + len_utf8 c))
      (found_on c cs pre e size len s l (next_of state c) found known k (is_whole (next_of state c))))

  pub longest_sized : (state : ℕ) → longest_by_size state 0 None text ≡ sized text (longest_from state 0 None text)
  longest_sized state = longest_step text [] refl state 0 0 refl refl None None refl

-- ---- answers in characters and in bytes

pub sized_none : (A : Type 0) (text : List ℕ) (answer : Option (A × ℕ)) → None ≡ sized text answer → answer ≡ None
sized_none A text None e = refl
sized_none A text (Some x) e = absurd cc

pub sized_some : (A : Type 0) (text : List ℕ) (answer : Option (A × ℕ)) (x : A) (size : ℕ) → Some (x, size) ≡ sized text answer → (len : ℕ) × (answer ≡ Some (x, len)) × (size ≡ size_of (take len text))
sized_some A text None x size e = absurd cc
sized_some A text (Some (y, n)) x size e = (n, ap (λ (z : A). Some (z, n)) (sym (ap first e)), ap second e)
  where
    first : Option (A × ℕ) → A
    first None = x
    first (Some z) = z.0

    second : Option (A × ℕ) → ℕ
    second None = 0
    second (Some z) = z.1

pub exact_size : (text : List ℕ) (answer : Option (PieceKind × ℕ)) (result : Option (PieceKind × ℕ)) → result ≡ sized text answer → Exact text answer → ExactSize text result
exact_size text None result e exact = subst (λ (r : Option (PieceKind × ℕ)). ExactSize text r) (sym e) exact
exact_size text (Some x) result e exact = subst (λ (r : Option (PieceKind × ℕ)). ExactSize text r) (sym e) (x.1, refl, exact)

-- ---- one character after another

module _ (rest next : List ℕ) (c : ℕ) (utf8 : IsUtf8 rest) (is : rest ≡ encode_utf8 c ++ next) where
  pub next_utf8 : IsUtf8 next
  next_utf8 = IsUtf8-past_char rest next c utf8 is

  pub next_chars : chars rest ≡ c ∷ chars next
  next_chars = chars_past_char rest next c utf8 is

  pub next_size : length rest ≡ len_utf8 c + length next
  next_size = let sizes = ap length is ∙ length-append (encode_utf8 c) next in let first = length-encode c in omega (arith, sizes, first)

  module _ (passes : ℕ → Bool) (size total : ℕ) (so_far : size + size_while passes (chars rest) ≡ total) where
    pub while_on : passes c ≡ true → (size + len_utf8 c) + size_while passes (chars next) ≡ total
    while_on p = let e = ap (size_while passes) next_chars ∙ ap (λ (b : Bool). cond b (len_utf8 c + size_while passes (chars next)) 0) p in omega (arith, e, so_far)

    pub while_stops : passes c ≡ false → size ≡ total
    while_stops p = let e = ap (size_while passes) next_chars ∙ ap (λ (b : Bool). cond b (len_utf8 c + size_while passes (chars next)) 0) p in omega (arith, e, so_far)

pub while_ends : (passes : ℕ → Bool) (rest : List ℕ) (size total : ℕ) → length rest ≡ 0 → size + size_while passes (chars rest) ≡ total → size ≡ total
while_ends passes [] size total e so_far = let n = ap (size_while passes) chars-nil in omega (arith, n, so_far)
while_ends passes (x ∷ xs) size total e so_far = absurd (omega (arith, e))

module _ (state size : ℕ) (found whole : Option (ℕ × ℕ)) where
  pub longest_ends : (rest : List ℕ) → length rest ≡ 0 → longest_by_size state size found (chars rest) ≡ whole → found ≡ whole
  unfolding longest_by_size
  longest_ends [] e so_far = sym (ap (longest_by_size state size found) chars-nil) ∙ so_far
  longest_ends (x ∷ xs) e so_far = absurd (omega (arith, e))

  module _ (rest next : List ℕ) (c : ℕ) (utf8 : IsUtf8 rest) (is : rest ≡ encode_utf8 c ++ next) (so_far : longest_by_size state size found (chars rest) ≡ whole)
      (after : ℕ) (value : after ≡ next_of state c) where
    step : longest_by_size state size found (c ∷ chars next) ≡ whole
    step = sym (ap (longest_by_size state size found) (next_chars rest next c utf8 is)) ∙ so_far

    pub longest_stops : after ≡ DEAD → found ≡ whole
    unfolding longest_by_size
    longest_stops e = sym stops ∙ step
      where
        dead : next_of state c ≡ DEAD
        dead = sym value ∙ e

        stops : longest_by_size state size found (c ∷ chars next) ≡ found
        stops = rw (dead) refl

    pub longest_goes : after ≢ DEAD → (n : ℕ) → n ≡ len_utf8 c → (now : Option (ℕ × ℕ)) → now ≡ found_by found after (size + n) → longest_by_size after (size + n) now (chars next) ≡ whole
    unfolding longest_by_size
    longest_goes live n len now by =
        ap (λ (o : Option (ℕ × ℕ)). longest_by_size after (size + n) o (chars next)) by
        ∙ ap (λ (k : ℕ). longest_by_size after (size + k) (found_by found after (size + k)) (chars next)) len
        ∙ sym goes ∙ step
      where
        alive : next_of state c == DEAD ≡ false
        alive = rw (← value) (unlike after live)
          where
            unlike : (n : ℕ) → n ≢ DEAD → n == DEAD ≡ false
            unlike n h = grind (arith, nat_tests, h)

        goes : longest_by_size state size found (c ∷ chars next) ≡ longest_by_size after (size + len_utf8 c) (found_by found after (size + len_utf8 c)) (chars next)
        goes = rw (alive, ← value) refl
