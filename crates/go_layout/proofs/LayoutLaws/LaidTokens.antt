-- Tokens and white space of a layout are the next pieces of its text.
use Rattle.std.proofs.Common.{◌≡◌, ℕ, ◌<◌, Bool, true, false, cond, not, ◌&&◌, ◌||◌, nat_eq, nat_lt, nat_le, ◌==◌, List, [], ◌∷◌, ◌++◌, refl, sym, ap, subst, ◌∙◌, arith, bytes_eq}
use Rattle.std.specs.Prelude.{codes, encode_utf8_all}
use Rattle.std.specs.Str.{all_scalars, chars}
use Rattle.std.proofs.lemmas.Str.{scalars-chars, encodes-chars}
use Rattle.std.proofs.lemmas.Bool.Decides.{nat_tests}
use Rattle.go_tree.specs.declared.tokens.TokenKind.TheVariants.{Ident, Keyword, Operator, Integer, Rune, Str}
use Rattle.go_tree.specs.GoWords.Tokens.Characters.{is_letter, is_digit, is_word, is_blank, each, is_listed, byte_order_mark}
use Rattle.go_tree.specs.GoWords.Tokens.Forms.{HasForm}
use Rattle.go_tree.specs.GoWords.Tokens.Literals.{int_lit}
use Rattle.go_tree.specs.GoWords.Tokens.Pieces.{PieceKind, token, keyword_spellings, operator_spellings, operator, is_among, no_word_first, may_precede, IsPiece, IsNext}
use Rattle.go_scan.specs.Automaton.{next_of, is_whole, kind_in}
use Rattle.go_scan.proofs.Derivatives.{matches, has_form, and_parts, and_true}
use Rattle.go_scan.proofs.AutomatonLemmas.{below, below_at, run}
use Rattle.go_scan.proofs.LexemeLemmas.{form_of, form_runs}
use Rattle.go_scan.proofs.LetterLemmas.{letter_ascii, digit_ascii}
use Rattle.go_scan.proofs.PieceKinds.{never_empty}
use Rattle.go_layout.specs.Layouts.{gap}
use Rattle.go_layout.specs.LayoutLaws.Formed.{IsToken, IsName}
use Rattle.go_layout.specs.LayoutLaws.Laid.{IsLaid, is_indent, IsLineLaid, Laid}
use Rattle.go_layout.proofs.LayoutLaws.NextTokens.{START, DEAD, stops, no_blank_first, is_lexeme, next_lexeme, lexeme_first, next_name, next_keyword, next_blanks}

-- ---- characters that lead on from a state

lt_is : (a b : ℕ) → nat_lt a b ≡ true → a < b
lt_is a b e = grind (arith, nat_tests, e)

same_number : (a b : ℕ) → nat_eq a b ≡ true → a ≡ b
same_number a b e = grind (arith, nat_tests, e)

-- past ASCII the automaton knows the byte order mark, and the rest
past_ascii : (s c : ℕ) (b : Bool) → nat_lt c 128 ≡ false → (c == byte_order_mark) ≡ b → next_of s c ≡ cond b (next_of s byte_order_mark) (next_of s 128)
unfolding next_of
past_ascii s c true far mark = rw (far, mark) refl
past_ascii s c false far mark = rw (far, mark) refl

-- from this state only these characters of ASCII lead on
unfoldable pub leads_only : ℕ → (ℕ → Bool) → Bool
unfolding below next_of
leads_only s on = below 128 (λ c. on c || nat_eq (next_of s c) DEAD) && (nat_eq (next_of s 128) DEAD && nat_eq (next_of s byte_order_mark) DEAD)

or_second : (a b : Bool) → a ≡ false → a || b ≡ true → b ≡ true
or_second true b e h = absurd cc
or_second false b e h = h

dead_after : (s : ℕ) (on : ℕ → Bool) (c : ℕ) → leads_only s on ≡ true → (nat_lt c 128 ≡ true → on c ≡ false) → nat_eq (next_of s c) DEAD ≡ true
unfolding leads_only
dead_after s on c h off = by_ascii (nat_lt c 128) refl
  where
    parts : (below 128 (λ x. on x || nat_eq (next_of s x) DEAD) ≡ true) × (nat_eq (next_of s 128) DEAD && nat_eq (next_of s byte_order_mark) DEAD ≡ true)
    parts = and_parts (below 128 (λ x. on x || nat_eq (next_of s x) DEAD)) (nat_eq (next_of s 128) DEAD && nat_eq (next_of s byte_order_mark) DEAD) h

    past : (nat_eq (next_of s 128) DEAD ≡ true) × (nat_eq (next_of s byte_order_mark) DEAD ≡ true)
    past = and_parts (nat_eq (next_of s 128) DEAD) (nat_eq (next_of s byte_order_mark) DEAD) parts.1

    either_way : (b : Bool) → nat_eq (cond b (next_of s byte_order_mark) (next_of s 128)) DEAD ≡ true
    either_way true = past.1
    either_way false = past.0

    by_ascii : (b : Bool) → nat_lt c 128 ≡ b → nat_eq (next_of s c) DEAD ≡ true
    by_ascii true e = or_second (on c) (nat_eq (next_of s c) DEAD) (off e) (below_at 128 (λ x. on x || nat_eq (next_of s x) DEAD) c parts.0 (lt_is c 128 e))
    by_ascii false e = subst (λ (n : ℕ). nat_eq n DEAD ≡ true) (sym (past_ascii s c (c == byte_order_mark) e refl)) (either_way (c == byte_order_mark))

-- none of these characters comes first
abbrev pub avoids : List ℕ → List ℕ → Bool
avoids cs [] = true
avoids cs (d ∷ ds) = not (is_listed cs d)

not_true : (b : Bool) → not b ≡ true → b ≡ false
not_true true h = absurd cc
not_true false h = refl

stops_after : (s : ℕ) (cs more : List ℕ) → leads_only s (is_listed cs) ≡ true → avoids cs more ≡ true → stops s more ≡ true
stops_after s cs [] h off = refl
stops_after s cs (d ∷ ds) h off = dead_after s (is_listed cs) d h (λ e. not_true (is_listed cs d) off)

-- ---- operators

-- an operator of ASCII
unfoldable pub good_operator : List ℕ → Bool
unfolding operator operator_spellings lib.Utf8.encode
good_operator w = matches operator w && (all_scalars w && bytes_eq (encode_utf8_all w) w)

bytes_same : (xs ys : List ℕ) → bytes_eq xs ys ≡ true → xs ≡ ys
bytes_same [] [] h = refl
bytes_same [] (y ∷ ys) h = absurd cc
bytes_same (x ∷ xs) [] h = absurd cc
bytes_same (x ∷ xs) (y ∷ ys) h =
    let p = and_parts (nat_eq x y) (bytes_eq xs ys) h in
    ap (λ (z : ℕ). z ∷ xs) (same_number x y p.0) ∙ ap (λ (zs : List ℕ). y ∷ zs) (bytes_same xs ys p.1)

next_operator : (w more : List ℕ) → IsPiece (token Operator) w → stops (run START w) more ≡ true → may_precede (token Operator) w more ≡ true → IsNext (w ++ more) (token Operator) w more
next_operator [] more piece dead follows = absurd (never_empty (token Operator) piece)
next_operator (c ∷ cs) more piece dead follows =
    let first = lexeme_first (token Operator) c cs refl piece in next_lexeme (token Operator) c cs more first.0 first.1 piece dead follows

pub operator_laid : (w more : List ℕ) → good_operator w ≡ true → stops (run START w) more ≡ true → may_precede (token Operator) w more ≡ true → IsLaid Operator w more
unfolding good_operator
operator_laid w more good dead follows =
    let p = and_parts (matches operator w) (all_scalars w && bytes_eq (encode_utf8_all w) w) good in
    let q = and_parts (all_scalars w) (bytes_eq (encode_utf8_all w) w) p.1 in
    record {
      next = next_operator w more (has_form operator w p.0) dead follows;
      scalars = q.0;
      encoded = bytes_same (encode_utf8_all w) w q.1;
    }

pub before_laid : (w cs more : List ℕ) → good_operator w ≡ true → leads_only (run START w) (is_listed cs) ≡ true → may_precede (token Operator) w more ≡ true → avoids cs more ≡ true → IsLaid Operator w more
before_laid w cs more good only follows off = operator_laid w more good (stops_after (run START w) cs more only off) follows

avoids_none : (more : List ℕ) → avoids [] more ≡ true
avoids_none [] = refl
avoids_none (d ∷ ds) = refl

pub paren_laid : (more : List ℕ) → IsLaid Operator (codes "(") more
unfolding good_operator leads_only
paren_laid more = before_laid (codes "(") [] more refl refl refl (avoids_none more)

pub end_paren_laid : (more : List ℕ) → IsLaid Operator (codes ")") more
unfolding good_operator leads_only
end_paren_laid more = before_laid (codes ")") [] more refl refl refl (avoids_none more)

pub bracket_laid : (more : List ℕ) → IsLaid Operator (codes "[") more
unfolding good_operator leads_only
bracket_laid more = before_laid (codes "[") [] more refl refl refl (avoids_none more)

pub end_bracket_laid : (more : List ℕ) → IsLaid Operator (codes "]") more
unfolding good_operator leads_only
end_bracket_laid more = before_laid (codes "]") [] more refl refl refl (avoids_none more)

pub brace_laid : (more : List ℕ) → IsLaid Operator (codes "{") more
unfolding good_operator leads_only
brace_laid more = before_laid (codes "{") [] more refl refl refl (avoids_none more)

pub end_brace_laid : (more : List ℕ) → IsLaid Operator (codes "}") more
unfolding good_operator leads_only
end_brace_laid more = before_laid (codes "}") [] more refl refl refl (avoids_none more)

pub comma_laid : (more : List ℕ) → IsLaid Operator (codes ",") more
unfolding good_operator leads_only
comma_laid more = before_laid (codes ",") [] more refl refl refl (avoids_none more)

pub semicolon_laid : (more : List ℕ) → IsLaid Operator (codes ";") more
unfolding good_operator leads_only
semicolon_laid more = before_laid (codes ";") [] more refl refl refl (avoids_none more)

pub increment_laid : (more : List ℕ) → IsLaid Operator (codes "++") more
unfolding good_operator leads_only
increment_laid more = before_laid (codes "++") [] more refl refl refl (avoids_none more)

pub decrement_laid : (more : List ℕ) → IsLaid Operator (codes "--") more
unfolding good_operator leads_only
decrement_laid more = before_laid (codes "--") [] more refl refl refl (avoids_none more)

pub colon_laid : (more : List ℕ) → avoids (codes "=") more ≡ true → IsLaid Operator (codes ":") more
unfolding good_operator leads_only
colon_laid more off = before_laid (codes ":") (codes "=") more refl refl refl off

pub dot_laid : (more : List ℕ) → avoids (codes ".0123456789") more ≡ true → IsLaid Operator (codes ".") more
unfolding good_operator leads_only
dot_laid more off = before_laid (codes ".") (codes ".0123456789") more refl refl refl off

pub ellipsis_laid : (more : List ℕ) → IsLaid Operator (codes "...") more
unfolding good_operator leads_only
ellipsis_laid more = before_laid (codes "...") [] more refl refl refl (avoids_none more)

pub star_laid : (more : List ℕ) → avoids (codes "=") more ≡ true → IsLaid Operator (codes "*") more
unfolding good_operator leads_only
star_laid more off = before_laid (codes "*") (codes "=") more refl refl refl off

-- ---- an operator between two gaps

-- a blank follows
abbrev pub good_before_gap : List ℕ → Bool
good_before_gap w = good_operator w && nat_eq (next_of (run START w) 32) DEAD

pub gap_after : (w more : List ℕ) → good_before_gap w ≡ true → may_precede (token Operator) w (32 ∷ more) ≡ true → IsLaid Operator w (32 ∷ more)
gap_after w more good follows = let p = and_parts (good_operator w) (nat_eq (next_of (run START w) 32) DEAD) good in operator_laid w (32 ∷ more) p.0 p.1 follows

-- ---- names and literals

pub name_laid : (n more : List ℕ) → IsName n → no_word_first more ≡ true → IsLaid Ident n more
name_laid n more is off = record { next = next_name (chars n) more is.1 off; scalars = scalars-chars n is.0; encoded = encodes-chars n is.0 }

-- a letter, digit or underscore of ASCII, or a dot
abbrev leads_number : ℕ → Bool
leads_number c = ((nat_le 97 c && nat_le c 122 || nat_le 65 c && nat_le c 90 || c == 95) || (nat_le 48 c && nat_le c 57)) || c == 46

abbrev is_integer_kind : PieceKind → Bool
is_integer_kind (token Integer) = true
is_integer_kind _ = false

abbrev is_quoted_kind : PieceKind → Bool
is_quoted_kind (token Rune) = true
is_quoted_kind (token Str) = true
is_quoted_kind _ = false

abbrev leads_where : (PieceKind → Bool) → (ℕ → Bool) → ℕ → Bool
leads_where kinds on s = not (is_whole s && kinds (kind_in s)) || leads_only s on

-- nothing leads on from the end of a rune or a string, and from that of an integer no more than these
quoted_checked : below 28 (leads_where is_quoted_kind (λ c. false)) ≡ true
unfolding below leads_only
quoted_checked = refl

integers_checked : below 28 (leads_where is_integer_kind leads_number) ≡ true
unfolding below leads_only
integers_checked = refl

whole_small : (s : ℕ) → is_whole s ≡ true → s < 28
whole_small s w = lt_is s 28 (and_parts (nat_le 2 s) (nat_lt s 28) w).1

leads_at : (kinds : PieceKind → Bool) (on : ℕ → Bool) (s : ℕ) → below 28 (leads_where kinds on) ≡ true → is_whole s ≡ true → kinds (kind_in s) ≡ true → leads_only s on ≡ true
leads_at kinds on s h w k = second (is_whole s) (kinds (kind_in s)) (leads_only s on) w k (below_at 28 (leads_where kinds on) s h (whole_small s w))
  where
    second : (a b c : Bool) → a ≡ true → b ≡ true → not (a && b) || c ≡ true → c ≡ true
    second true true c p q h = h
    second true false c p q h = absurd cc
    second false b c p q h = absurd cc

quoted_stops : (k : PieceKind) (w more : List ℕ) → is_quoted_kind k ≡ true → HasForm (form_of k) w → stops (run START w) more ≡ true
quoted_stops k w [] q h = refl
quoted_stops k w (d ∷ ds) q h =
    let runs = form_runs k w h in
    let only = leads_at is_quoted_kind (λ c. false) (run START w) quoted_checked runs.0 (subst (λ (j : PieceKind). is_quoted_kind j ≡ true) runs.1 q) in
    dead_after (run START w) (λ c. false) d only (λ e. refl)

next_literal : (k : PieceKind) (w more : List ℕ) → is_lexeme k ≡ true → IsPiece k w → stops (run START w) more ≡ true → may_precede k w more ≡ true → IsNext (w ++ more) k w more
next_literal k [] more q piece dead follows = absurd (never_empty k piece)
next_literal k (c ∷ cs) more q piece dead follows = let first = lexeme_first k c cs q piece in next_lexeme k c cs more first.0 first.1 piece dead follows

pub rune_laid : (n more : List ℕ) → IsToken Rune n → IsLaid Rune n more
rune_laid n more is = record {
  next = next_literal (token Rune) (chars n) more refl is.1 (quoted_stops (token Rune) (chars n) more refl is.1) refl;
  scalars = scalars-chars n is.0;
  encoded = encodes-chars n is.0;
}

pub string_laid : (n more : List ℕ) → IsToken Str n → IsLaid Str n more
string_laid n more is = record {
  next = next_literal (token Str) (chars n) more refl is.1 (quoted_stops (token Str) (chars n) more refl is.1) refl;
  scalars = scalars-chars n is.0;
  encoded = encodes-chars n is.0;
}

or_false : (a b : Bool) → a || b ≡ false → (a ≡ false) × (b ≡ false)
or_false true b e = absurd cc
or_false false b e = (refl, e)

both_false : (a b : Bool) → a ≡ false → b ≡ false → a || b ≡ false
both_false false b p q = q
both_false true b p q = absurd cc

-- no letter, digit or dot
number_off : (d : ℕ) → is_word d ≡ false → d == 46 ≡ false → nat_lt d 128 ≡ true → leads_number d ≡ false
number_off d off dot small =
    let lt = lt_is d 128 small in
    let parts = or_false (is_letter d) (is_digit d) off in
    let letter : (nat_le 97 d && nat_le d 122 || nat_le 65 d && nat_le d 90 || d == 95) ≡ false = sym (letter_ascii d lt) ∙ parts.0 in
    let digit : (nat_le 48 d && nat_le d 57) ≡ false = sym (digit_ascii d lt) ∙ parts.1 in
    both_false (((nat_le 97 d && nat_le d 122 || nat_le 65 d && nat_le d 90 || d == 95) || (nat_le 48 d && nat_le d 57))) (d == 46)
    (both_false (nat_le 97 d && nat_le d 122 || nat_le 65 d && nat_le d 90 || d == 95) (nat_le 48 d && nat_le d 57) letter digit) dot

integer_stops : (w more : List ℕ) → HasForm int_lit w → no_word_first more ≡ true → avoids (codes ".") more ≡ true → stops (run START w) more ≡ true
integer_stops w [] h off dot = refl
integer_stops w (d ∷ ds) h off dot =
    let runs = form_runs (token Integer) w h in
    let only = leads_at is_integer_kind leads_number (run START w) integers_checked runs.0 (subst (λ (j : PieceKind). is_integer_kind j ≡ true) runs.1 refl) in
    let no_dot : d == 46 ≡ false = (or_false (d == 46) false (not_true (is_listed (codes ".") d) dot)).0 in
    dead_after (run START w) leads_number d only (λ e. number_off d (not_true (is_word d) off) no_dot e)

pub integer_laid : (n more : List ℕ) → IsToken Integer n → no_word_first more ≡ true → avoids (codes ".") more ≡ true → IsLaid Integer n more
integer_laid n more is off dot = record {
  next = next_literal (token Integer) (chars n) more refl is.1 (integer_stops (chars n) more is.1 off dot) off;
  scalars = scalars-chars n is.0;
  encoded = encodes-chars n is.0;
}

-- ---- keywords

-- a keyword of ASCII
unfoldable pub good_keyword : List ℕ → Bool
unfolding keyword_spellings lib.Utf8.encode
good_keyword w = is_among keyword_spellings w && (all_scalars w && bytes_eq (encode_utf8_all w) w)

pub keyword_laid : (w more : List ℕ) → good_keyword w ≡ true → no_word_first more ≡ true → IsLaid Keyword w more
unfolding good_keyword
keyword_laid w more good off =
    let p = and_parts (is_among keyword_spellings w) (all_scalars w && bytes_eq (encode_utf8_all w) w) good in
    let q = and_parts (all_scalars w) (bytes_eq (encode_utf8_all w) w) p.1 in
    record { next = next_keyword w more p.0 off; scalars = q.0; encoded = bytes_same (encode_utf8_all w) w q.1 }

-- ---- white space

pub gap_laid : (more : List ℕ) → no_blank_first more ≡ true → Laid gap true more
gap_laid more off = next_blanks 32 [] more refl refl off

each_blank : (indent : List ℕ) → is_indent indent ≡ true → each is_blank indent ≡ true
each_blank [] h = refl
each_blank (c ∷ cs) h =
    let p = and_parts (c == 32 || c == 9) (is_indent cs) h in
    and_true (is_blank c) (each is_blank cs) (blank_of (c == 32) (c == 9) (c == 13) (c == 10) p.0) (each_blank cs p.1)
  where
    blank_of : (a b x y : Bool) → a || b ≡ true → a || b || x || y ≡ true
    blank_of true b x y h = refl
    blank_of false true x y h = refl
    blank_of false false x y h = absurd cc

pub line_laid : (indent more : List ℕ) → is_indent indent ≡ true → no_blank_first more ≡ true → IsLineLaid indent more
line_laid indent more spaces off = record { next = next_blanks 10 indent more refl (each_blank indent spaces) off; spaces = spaces }
