-- Bytes of parts, lines, and what edits leave from an offset on.
use Rattle.std.proofs.Common.{◌≡◌, inl, inr, ◌⊎◌, ℕ, suc, ◌+◌, ◌-◌, ◌≤◌, ◌<◌, Bool, true, false, cond, not, ◌&&◌, ◌||◌, ◌==◌, List, [], ◌∷◌, ◌++◌, length, take, drop, reverse, refl, sym, ap, ◌∙◌, arith, length-append}
use Rattle.std.specs.Prelude.{encode_utf8_all, slice_range}
use Rattle.std.specs.List.{list_all}
use Rattle.std.proofs.lemmas.Bool.Decides.{nat_tests}
use Rattle.std.proofs.lemmas.List.{append_assoc, append-nil, reverse-append, length-reverse}
use Rattle.std.proofs.lemmas.List.Folds.{drop_split}
use Rattle.std.proofs.lemmas.Str.{encodes-append}
use Rattle.std.proofs.lemmas.Str.{encode_ascii}
use Rattle.go_tree.specs.GoWords.Tokens.Characters.{is_blank, is_listed, each}
use Rattle.go_tree.specs.GoWords.Tokens.{pieces_size}
use Rattle.go_tree.specs.GoWords.Tokens.Pieces.{Piece, is_blanks}
use Rattle.text_edits.specs.declared.edit.Edit.{Edit}
use Rattle.text_edits.specs.Applied.{replaced_from}
use Rattle.text_edits.proofs.Parts.{slice_split}
use Rattle.run_rules.specs.ImportRules.Removed.{bytes_to_newline, line_start, newline_size, line_end, begins_line}
use Rattle.splice_laws.specs.Joints.{words_of}
use Rattle.splice_laws.proofs.AddImports.{words_both}
use Rattle.splice_laws.proofs.Splices.{words_size, take_own, drop_own}
use Rattle.splice_laws.proofs.ImportSplices.Terms.{both_parts}

-- ---- parts

abbrev pub bytes_of : List Piece → List ℕ
bytes_of ps = encode_utf8_all (words_of ps)

pub bytes_then : (us vs : List Piece) → bytes_of (us ++ vs) ≡ bytes_of us ++ bytes_of vs
bytes_then us vs = ap encode_utf8_all (words_both us vs) ∙ encodes-append (words_of us) (words_of vs)

pub bytes_size : (ps : List Piece) → length (bytes_of ps) ≡ pieces_size ps
bytes_size ps = words_size ps

-- ---- places in a text

pub drop_at : (text front back : List ℕ) (at : ℕ) → text ≡ front ++ back → length front ≡ at → drop at text ≡ back
drop_at text front back at e n = ap (λ (t : List ℕ). drop at t) e ∙ ap (λ (k : ℕ). drop k (front ++ back)) (sym n) ∙ drop_own front back

pub take_at : (text front back : List ℕ) (at : ℕ) → text ≡ front ++ back → length front ≡ at → take at text ≡ front
take_at text front back at e n = ap (λ (t : List ℕ). take at t) e ∙ ap (λ (k : ℕ). take k (front ++ back)) (sym n) ∙ take_own front back

pub slice_at : (text front middle back : List ℕ) (at to : ℕ) → text ≡ front ++ (middle ++ back) → length front ≡ at → at + length middle ≡ to → slice_range text at to ≡ middle
slice_at text front middle back at to e n m =
    let size : to - at ≡ length middle = omega (arith, m) in
    ap (λ (t : List ℕ). take (to - at) t) (drop_at text front (middle ++ back) at e n) ∙ ap (λ (k : ℕ). take k (middle ++ back)) size ∙ take_own middle back

-- the first edit starts at the offset or later
abbrev pub HeadFrom : ℕ → List Edit → Type 0
HeadFrom c [] = Unit {0}
HeadFrom c (e ∷ es) = c ≤ e.span.start

pub replaced_on : (text : List ℕ) (from to : ℕ) (es : List Edit) → from ≤ to → HeadFrom to es → replaced_from text from es ≡ slice_range text from to ++ replaced_from text to es
replaced_on text from to [] le h = drop_split text from to le
replaced_on text from to (e ∷ es) le h =
    ap (λ (zs : List ℕ). zs ++ (e.text ++ replaced_from text e.span.end es)) (slice_split text from to e.span.start le h) ∙ append_assoc (slice_range text from to) (slice_range text to e.span.start) (e.text ++ replaced_from text e.span.end es)

-- ---- newlines

turned : (c : ℕ) → (10 == c) ≡ false → (c == 10) ≡ false
turned c h = grind (arith, nat_tests, h)

pub no_newline : (c : ℕ) (cs : List ℕ) → is_listed (c ∷ cs) 10 ≡ false → ((c == 10) ≡ false) × (is_listed cs 10 ≡ false)
no_newline c cs h = by (10 == c) refl h
  where
    by : (b : Bool) → (10 == c) ≡ b → b || is_listed cs 10 ≡ false → ((c == 10) ≡ false) × (is_listed cs 10 ≡ false)
    by true e h = absurd cc
    by false e h = (turned c e, h)

pub count_on : (xs ys : List ℕ) → is_listed xs 10 ≡ false → bytes_to_newline (xs ++ ys) ≡ length xs + bytes_to_newline ys
count_on [] ys h = zero (bytes_to_newline ys)
  where
    zero : (n : ℕ) → n ≡ 0 + n
    zero n = omega arith
count_on (x ∷ xs) ys h =
    let n = no_newline x xs h in
    ap (λ (b : Bool). cond (not b) (1 + bytes_to_newline (xs ++ ys)) 0) n.0 ∙ ap (λ (k : ℕ). 1 + k) (count_on xs ys n.1) ∙ sums (length xs) (bytes_to_newline ys)
  where
    sums : (a b : ℕ) → 1 + (a + b) ≡ suc a + b
    sums a b = omega arith

listed_both : (xs ys : List ℕ) → is_listed (xs ++ ys) 10 ≡ is_listed xs 10 || is_listed ys 10
listed_both [] ys = refl
listed_both (x ∷ xs) ys = ap (λ (b : Bool). 10 == x || b) (listed_both xs ys) ∙ assoc (10 == x) (is_listed xs 10) (is_listed ys 10)
  where
    assoc : (x y z : Bool) → x || (y || z) ≡ (x || y) || z
    assoc true y z = refl
    assoc false y z = refl

pub listed_then : (xs ys : List ℕ) (b c : Bool) → is_listed xs 10 ≡ b → is_listed ys 10 ≡ c → is_listed (xs ++ ys) 10 ≡ b || c
listed_then xs ys b c x y = listed_both xs ys ∙ ap (λ (d : Bool). d || is_listed ys 10) x ∙ ap (λ (d : Bool). b || d) y

listed_turned : (xs : List ℕ) → is_listed xs 10 ≡ false → is_listed (reverse xs) 10 ≡ false
listed_turned [] h = refl
listed_turned (x ∷ xs) h =
    let n = by (10 == x) h in
    ap (λ (ys : List ℕ). is_listed ys 10) (reverse-append (x ∷ []) xs) ∙ listed_then (reverse xs) (x ∷ []) false false (listed_turned xs n.1) (ap (λ (b : Bool). b || false) n.0)
  where
    by : (b : Bool) → b || is_listed xs 10 ≡ false → (b ≡ false) × (is_listed xs 10 ≡ false)
    by true h = absurd cc
    by false h = (refl, h)

-- nothing, or bytes that end with a newline
abbrev pub EndsLine : List ℕ → Type 0
EndsLine b = (b ≡ []) ⊎ ((b0 : List ℕ) × (b ≡ b0 ++ 10 ∷ []))

count_back : (b y : List ℕ) → EndsLine b → is_listed y 10 ≡ false → bytes_to_newline (reverse (b ++ y)) ≡ length y
count_back b y ends none =
    ap bytes_to_newline (reverse-append b y) ∙ count_on (reverse y) (reverse b) (listed_turned y none) ∙ ap (λ (k : ℕ). length (reverse y) + k) (stops ends) ∙ zero (length (reverse y)) ∙ length-reverse y
  where
    zero : (n : ℕ) → n + 0 ≡ n
    zero n = omega arith

    stops : EndsLine b → bytes_to_newline (reverse b) ≡ 0
    stops (inl e) = ap (λ (v : List ℕ). bytes_to_newline (reverse v)) e
    stops (inr x) = ap (λ (v : List ℕ). bytes_to_newline (reverse v)) x.1 ∙ ap bytes_to_newline (reverse-append x.0 (10 ∷ []))

-- ---- the line on which an offset stands

pub line_starts : (text b y back : List ℕ) (at : ℕ) → text ≡ (b ++ y) ++ back → length (b ++ y) ≡ at → EndsLine b → is_listed y 10 ≡ false → (line_start text at ≡ length b) × (begins_line text at ≡ list_all is_blank y)
line_starts text b y back at e n ends none =
    let before : take at text ≡ b ++ y = take_at text (b ++ y) back at e n in
    let count : bytes_to_newline (reverse (take at text)) ≡ length y = ap (λ (t : List ℕ). bytes_to_newline (reverse t)) before ∙ count_back b y ends none in
    let both = length-append b y in
    let start : line_start text at ≡ length b = ap (λ (k : ℕ). at - k) count ∙ less (length b) (length y) at (sym both ∙ n) in
    (start, ap (λ (k : ℕ). list_all is_blank (drop k (take at text))) start ∙ ap (λ (t : List ℕ). list_all is_blank (drop (length b) t)) before ∙ ap (λ (t : List ℕ). list_all is_blank t) (drop_own b y))
  where
    less : (b y n : ℕ) → b + y ≡ n → n - y ≡ b
    less b y n e = omega (arith, e)

-- the end of a line through its newline, or that of the text
pub line_ends : (text front v back : List ℕ) (at : ℕ) → text ≡ front ++ (v ++ 10 ∷ back) → length front ≡ at → is_listed v 10 ≡ false → line_end text at ≡ at + (length v + 1)
line_ends text front v back at e n none =
    let rest : drop at text ≡ v ++ 10 ∷ back = drop_at text front (v ++ 10 ∷ back) at e n in
    let count : bytes_to_newline (drop at text) ≡ length v = ap bytes_to_newline rest ∙ count_on v (10 ∷ back) none ∙ zero (length v) in
    ap (λ (k : ℕ). at + k + newline_size (drop k (drop at text))) count ∙ ap (λ (t : List ℕ). at + length v + newline_size (drop (length v) t)) rest ∙ ap (λ (t : List ℕ). at + length v + newline_size t) (drop_own v (10 ∷ back)) ∙ sums at (length v)
  where
    zero : (n : ℕ) → n + 0 ≡ n
    zero n = omega arith

    sums : (a b : ℕ) → a + b + 1 ≡ a + (b + 1)
    sums a b = omega arith

pub text_ends : (text front v : List ℕ) (at : ℕ) → text ≡ front ++ v → length front ≡ at → is_listed v 10 ≡ false → line_end text at ≡ at + length v
text_ends text front v at e n none =
    let rest : drop at text ≡ v = drop_at text front v at e n in
    let count : bytes_to_newline (drop at text) ≡ length v = ap bytes_to_newline (rest ∙ sym (append-nil v)) ∙ count_on v [] none ∙ zero (length v) in
    ap (λ (k : ℕ). at + k + newline_size (drop k (drop at text))) count ∙ ap (λ (t : List ℕ). at + length v + newline_size (drop (length v) t)) (rest ∙ sym (append-nil v)) ∙ ap (λ (t : List ℕ). at + length v + newline_size t) (drop_own v []) ∙ zero (at + length v)
  where
    zero : (n : ℕ) → n + 0 ≡ n
    zero n = omega arith

pub all_blank_then : (xs ys : List ℕ) → list_all is_blank (xs ++ ys) ≡ true → (list_all is_blank xs ≡ true) × (list_all is_blank ys ≡ true)
all_blank_then [] ys h = (refl, h)
all_blank_then (x ∷ xs) ys h = let p = both_parts (is_blank x) (list_all is_blank (xs ++ ys)) h in let q = all_blank_then xs ys p.1 in (and_true (is_blank x) (list_all is_blank xs) p.0 q.0, q.1)
  where
    and_true : (a b : Bool) → a ≡ true → b ≡ true → a && b ≡ true
    and_true true true e f = refl
    and_true true false e f = absurd cc
    and_true false b e f = absurd cc

-- ---- blanks

blank_under : (c : ℕ) → is_blank c ≡ true → c < 128
blank_under c h = by (c == 32) (c == 9) (c == 13) refl refl refl h
  where
    same : (a b : ℕ) → a == b ≡ true → b < 128 → a < 128
    same a b e l = grind (arith, nat_tests, e, l)

    by : (x y z : Bool) → (c == 32) ≡ x → (c == 9) ≡ y → (c == 13) ≡ z → ((x || y) || z) || c == 10 ≡ true → c < 128
    by true y z e f g h = same c 32 e (omega arith)
    by false true z e f g h = same c 9 f (omega arith)
    by false false true e f g h = same c 13 g (omega arith)
    by false false false e f g h = same c 10 h (omega arith)

pub blank_bytes : (w : List ℕ) → each is_blank w ≡ true → encode_utf8_all w ≡ w
blank_bytes [] h = refl
blank_bytes (c ∷ w) h = let p = both_parts (is_blank c) (each is_blank w) h in ap (λ (bs : List ℕ). bs ++ encode_utf8_all w) (encode_ascii c (blank_under c p.0)) ∙ ap (λ (bs : List ℕ). c ∷ bs) (blank_bytes w p.1)

pub blank_each : (w : List ℕ) → is_blanks w ≡ true → each is_blank w ≡ true
blank_each [] h = absurd cc
blank_each (c ∷ w) h = h

pub blanks_all : (w : List ℕ) → each is_blank w ≡ true → list_all is_blank w ≡ true
blanks_all [] h = refl
blanks_all (c ∷ w) h = let p = both_parts (is_blank c) (each is_blank w) h in ap (λ (b : Bool). b && list_all is_blank w) p.0 ∙ blanks_all w p.1

pub each_then : (xs ys : List ℕ) → each is_blank (xs ++ ys) ≡ true → (each is_blank xs ≡ true) × (each is_blank ys ≡ true)
each_then [] ys h = (refl, h)
each_then (x ∷ xs) ys h =
    let p = both_parts (is_blank x) (each is_blank (xs ++ ys)) h in
    let q = each_then xs ys p.1 in
    (ap (λ (b : Bool). b && each is_blank xs) p.0 ∙ q.0, q.1)
