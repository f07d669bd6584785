-- What ends before a letter, and tokens that end elsewhere.
use Rattle.std.proofs.Common.{◌≡◌, ℕ, ◌+◌, ◌<◌, ◌≤◌, Bool, true, false, cond, not, ◌&&◌, ◌||◌, nat_eq, nat_lt, nat_le, ◌==◌, bytes_eq, List, [], ◌∷◌, ◌++◌, length, take, drop, Option, Some, None, refl, sym, ap, subst, ◌∙◌, arith, length-take, length-append}
use Rattle.std.specs.Prelude.{encode_utf8, encode_utf8_all, codes, if◌then◌else◌}
use Rattle.std.specs.Char.{len_utf8}
use Rattle.std.specs.Str.{all_scalars, chars}
use Rattle.std.proofs.lemmas.Bool.Decides.{nat_tests}
use Rattle.std.proofs.lemmas.Str.{length-encode}
use Rattle.ucd_category.specs.GeneralCategory.{general_category}
use Rattle.ucd_category.specs.GeneralCategoryRows.{general_category_rows}
use Rattle.ucd_table.specs.Rows.{value_in}
use Rattle.go_tree.specs.declared.tokens.Token.{Token}
use Rattle.go_tree.specs.declared.tokens.TokenKind.{TokenKind}
use Rattle.go_tree.specs.declared.tokens.TokenKind.TheVariants.{Ident, Keyword, Operator, Integer, Float, Imaginary, Rune, Str, Inserted}
use Rattle.go_tree.specs.GoWords.Tokens.Characters.{is_letter, is_word, is_digit, is_listed, each, byte_order_mark}
use Rattle.go_tree.specs.GoWords.Tokens.{size_of, span_of, inserted, tokens_at, due_after, tokens_from, after_mark}
use Rattle.go_tree.specs.GoWords.Tokens.Pieces.{PieceKind, blanks, remark, token, Piece, may_precede, IsPiece, IsNext}
use Rattle.go_scan.specs.Automaton.{next_of, kind_in}
use Rattle.go_scan.specs.Pieces.{piece_of, Exact}
use Rattle.go_scan.proofs.Derivatives.{and_parts, and_true}
use Rattle.go_scan.proofs.AutomatonLemmas.{below, below_at}
use Rattle.go_scan.proofs.LetterLemmas.{letter_ascii}
use Rattle.go_scan.proofs.PieceKinds.{never_empty}
use Rattle.go_scan.proofs.PieceLemmas.{piece_exact}
use Rattle.go_layout.proofs.LayoutLaws.NextTokens.{DEAD}
use Rattle.splice_laws.specs.Joints.{begins_with_dot, is_open}
use Rattle.splice_laws.specs.Splice.{has_length, are_two, is_inserted, stays_apart, are_apart}
use Rattle.splice_laws.proofs.Ends.{or_cases}
use Rattle.splice_laws.proofs.Joins.{is_remark_kind}

-- ---- small things

clash : {X : Type 0} → (b : Bool) → b ≡ true → b ≡ false → X
clash b p q = absurd cc

nope : (b : Bool) → not b ≡ true → b ≡ true → ⊥
nope true p q = cc
nope false p q = cc

lt_is : (a b : ℕ) → nat_lt a b ≡ true → a < b
lt_is a b e = grind (arith, nat_tests, e)

same_number : (a b : ℕ) → nat_eq a b ≡ true → a ≡ b
same_number a b e = grind (arith, nat_tests, e)

same_place : (a b : ℕ) → a ≡ b → nat_eq a b ≡ true
same_place a b e = grind (arith, nat_tests, e)

other_place : (a b : ℕ) → b < a → nat_eq a b ≡ false
other_place a b e = grind (arith, nat_tests, e)

each_on : (p : ℕ → Bool) (cs : List ℕ) (d : ℕ) → each p cs ≡ true → p d ≡ true → each p (cs ++ d ∷ []) ≡ true
each_on p [] d h q = and_true (p d) true q refl
each_on p (c ∷ cs) d h q = let x = and_parts (p c) (each p cs) h in and_true (p c) (each p (cs ++ d ∷ [])) x.0 (each_on p cs d x.1 q)

too_long : (w : List ℕ) (c : ℕ) → length (w ++ c ∷ []) ≤ length w → ⊥
too_long [] c h = absurd (omega (arith, h))
too_long (d ∷ w) c h = too_long w c (omega (arith, h))

pub scalars_parts : (xs ys : List ℕ) → all_scalars (xs ++ ys) ≡ true → (all_scalars xs ≡ true) × (all_scalars ys ≡ true)
scalars_parts [] ys h = (refl, h)
scalars_parts (c ∷ xs) ys h =
    let p = and_parts (lib.Utf8.scalar c) (all_scalars (xs ++ ys)) h in
    let q = scalars_parts xs ys p.1 in
    (and_true (lib.Utf8.scalar c) (all_scalars xs) p.0 q.0, q.1)

-- ---- letters

abbrev ascii_letter : ℕ → Bool
ascii_letter c = nat_le 97 c && nat_le c 122 || nat_le 65 c && nat_le c 90 || c == 95

mark_letter : is_letter byte_order_mark ≡ false
unfolding is_letter general_category general_category_rows value_in
mark_letter = refl

star_letter : is_letter 42 ≡ false
unfolding is_letter general_category general_category_rows value_in
star_letter = refl

pub dot_letter : is_letter 46 ≡ false
unfolding is_letter general_category general_category_rows value_in
dot_letter = refl

-- a letter is none of these
pub no_letter : (c n : ℕ) → is_letter n ≡ false → is_letter c ≡ true → c == n ≡ false
no_letter c n off l = by_test (c == n) refl
  where
    by_test : (b : Bool) → c == n ≡ b → c == n ≡ false
    by_test true e = clash (is_letter n) (subst (λ (m : ℕ). is_letter m ≡ true) (same_number c n e) l) off
    by_test false e = e

abbrev pub is_number : PieceKind → Bool
is_number (token Integer) = true
is_number (token Float) = true
is_number (token Imaginary) = true
is_number _ = false

-- the automaton reads no letter behind a whole operator, rune or string
abbrev pub letters_dead : ℕ → Bool
letters_dead s = below 128 (λ c. not (ascii_letter c) || nat_eq (next_of s c) DEAD) && nat_eq (next_of s 128) DEAD

abbrev pub letter_stops : ℕ → Bool
letter_stops s = is_number (kind_in s) || (is_remark_kind (kind_in s) || letters_dead s)

pub letters_checked : below 28 (λ s. nat_lt s 2 || letter_stops s) ≡ true
unfolding below next_of
letters_checked = refl

past_ascii : (s c : ℕ) (b : Bool) → nat_lt c 128 ≡ false → (c == byte_order_mark) ≡ b → next_of s c ≡ cond b (next_of s byte_order_mark) (next_of s 128)
unfolding next_of
past_ascii s c true far mark = rw (far, mark) refl
past_ascii s c false far mark = rw (far, mark) refl

pub dead_letter : (s c : ℕ) → letters_dead s ≡ true → is_letter c ≡ true → nat_eq (next_of s c) DEAD ≡ true
dead_letter s c h l = by_ascii (nat_lt c 128) refl
  where
    p : (below 128 (λ c. not (ascii_letter c) || nat_eq (next_of s c) DEAD) ≡ true) × (nat_eq (next_of s 128) DEAD ≡ true)
    p = and_parts (below 128 (λ c. not (ascii_letter c) || nat_eq (next_of s c) DEAD)) (nat_eq (next_of s 128) DEAD) h

    by_ascii : (b : Bool) → nat_lt c 128 ≡ b → nat_eq (next_of s c) DEAD ≡ true
    by_ascii true e =
        let small = lt_is c 128 e in
        or_cases (not (ascii_letter c)) (nat_eq (next_of s c) DEAD) (below_at 128 (λ c. not (ascii_letter c) || nat_eq (next_of s c) DEAD) c p.0 small)
        (λ q. absurd (nope (ascii_letter c) q (sym (letter_ascii c small) ∙ l))) (λ q. q)
    by_ascii false e =
        subst (λ (n : ℕ). nat_eq n DEAD ≡ true)
        (sym (past_ascii s c (c == byte_order_mark) e refl ∙ ap (λ (b : Bool). cond b (next_of s byte_order_mark) (next_of s 128)) (no_letter c byte_order_mark mark_letter l))) p.1

letter_word : (c : ℕ) → is_letter c ≡ true → is_word c ≡ true
letter_word c l = by_letter (is_letter c) l
  where
    by_letter : (b : Bool) → b ≡ true → b || is_digit c ≡ true
    by_letter true e = refl
    by_letter false e = absurd cc

-- ---- a token before a letter

-- a letter may follow any other
pub letter_follows : (k : TokenKind) (w : List ℕ) (d : ℕ) (others : List ℕ) → (is_number (token k) ≡ true → ⊥) → is_letter d ≡ true → may_precede (token k) w (d ∷ others) ≡ true
letter_follows Ident w d others off l = refl
letter_follows Keyword w d others off l = refl
letter_follows Integer w d others off l = absurd (off refl)
letter_follows Float w d others off l = absurd (off refl)
letter_follows Imaginary w d others off l = absurd (off refl)
letter_follows Rune w d others off l = refl
letter_follows Str w d others off l = refl
letter_follows Inserted w d others off l = refl
letter_follows Operator w d others off l = by_slash (bytes_eq w (codes "/")) (no_letter d 42 star_letter l)
  where
    by_slash : (b : Bool) → d == 42 ≡ false → (if b then not (d == 42) else true) ≡ true
    by_slash true e = rw e refl
    by_slash false e = refl

-- it is the first piece where the two stand side by side
pub next_two : (w rest : List ℕ) (k : PieceKind) → IsNext (w ++ rest) k w rest → are_two w rest ≡ true
unfolding are_two
next_two w rest k next = by_answer (piece_of (w ++ rest)) (piece_exact (w ++ rest))
  where
    taken : (n : ℕ) (xs : List ℕ) → n ≤ length xs → length (take n xs) ≡ n
    taken n xs within = rw length-take (omega arith)

    by_answer : (o : Option (PieceKind × ℕ)) → Exact (w ++ rest) o → has_length o (length w) ≡ true
    by_answer None x = absurd (x k w rest next)
    by_answer (Some a) x =
        let up = next.longest a.0 (take a.1 (w ++ rest)) (drop a.1 (w ++ rest)) x.0.parts x.0.spelled in
        let down = x.0.longest k w rest next.parts next.spelled in
        let all = taken a.1 (w ++ rest) x.1 in
        same_place a.1 (length w) (omega (arith, up, down, all))

-- ---- tokens of pieces

elsewhere : (a b c : Bool) → b ≡ false → a || (not b || c) ≡ true
elsewhere true b c e = refl
elsewhere false true c e = absurd cc
elsewhere false false c e = refl

pub here_apart : (a b c e f : Bool) → c ≡ true → f ≡ false → a || (not b || (c && not (e && f))) ≡ true
here_apart true b c e f x y = refl
here_apart false false c e f x y = refl
here_apart false true true true true x y = absurd cc
here_apart false true true true false x y = refl
here_apart false true true false f x y = refl
here_apart false true false e f x y = absurd cc

pub token_elsewhere : (k : TokenKind) (w : List ℕ) (at place : ℕ) (next : List ℕ) → nat_eq (at + size_of w) place ≡ false → stays_apart place next (record { span = span_of at w; kind = k; spelling = encode_utf8_all w }) ≡ true
unfolding stays_apart
token_elsewhere k w at place next e =
    elsewhere (is_inserted k) (nat_eq (at + size_of w) place) (are_two (chars (encode_utf8_all w)) next && not (is_open k (encode_utf8_all w) && begins_with_dot next)) e

-- an inserted semicolon is no matter
with_inserted : (due : Option ℕ) (ts : List Token) (place : ℕ) (next : List ℕ) → are_apart ts place next ≡ true → are_apart (inserted due ++ ts) place next ≡ true
unfolding stays_apart
with_inserted None ts place next h = h
with_inserted (Some n) ts place next h = h

pub with_line : (b : Bool) (due : Option ℕ) (ts : List Token) (place : ℕ) (next : List ℕ) → are_apart ts place next ≡ true → are_apart ((if b then inserted due else []) ++ ts) place next ≡ true
with_line true due ts place next h = with_inserted due ts place next h
with_line false due ts place next h = h

pub at_the_end : (due : Option ℕ) (place : ℕ) (next : List ℕ) → are_apart (inserted due) place next ≡ true
unfolding stays_apart
at_the_end None place next = refl
at_the_end (Some n) place next = refl

-- pieces behind a place
pub behind : (ps : List Piece) (at : ℕ) (due : Option ℕ) (place : ℕ) (next : List ℕ) → place < at → are_apart (tokens_from at due ps) place next ≡ true
unfolding tokens_from
behind [] at due place next lt = at_the_end due place next
behind (p ∷ ps) at due place next lt = by_kind p.kind p.word (behind ps (at + size_of p.word) (due_after at due p.kind p.word) place next (omega (arith, lt)))
  where
    by_kind : (k : PieceKind) (w : List ℕ) → are_apart (tokens_from (at + size_of p.word) (due_after at due p.kind p.word) ps) place next ≡ true
        → are_apart (tokens_at at due k w ++ tokens_from (at + size_of p.word) (due_after at due p.kind p.word) ps) place next ≡ true
    by_kind blanks w h = with_line (is_listed w 10) due (tokens_from (at + size_of p.word) (due_after at due p.kind p.word) ps) place next h
    by_kind remark w h = with_line (is_listed w 10) due (tokens_from (at + size_of p.word) (due_after at due p.kind p.word) ps) place next h
    by_kind (token k) w h =
        and_true (stays_apart place next (record { span = span_of at w; kind = k; spelling = encode_utf8_all w })) (are_apart (tokens_from (at + size_of p.word) (due_after at due p.kind p.word) ps) place next)
        (token_elsewhere k w at place next (other_place (at + size_of w) place (omega (arith, lt)))) h

-- ---- pieces

-- a piece has a byte at least
pub has_bytes : (k : PieceKind) (w : List ℕ) → IsPiece k w → 0 < size_of w
has_bytes k [] piece = absurd (never_empty k piece)
has_bytes k (c ∷ cs) piece = let sizes = length-append (encode_utf8 c) (encode_utf8_all cs) in let first = length-encode c in let some = width c in omega (arith, sizes, first, some)
  where
    wide : (x y z : Bool) → 0 < cond x 1 (cond y 2 (cond z 3 4))
    wide true y z = omega arith
    wide false true z = omega arith
    wide false false true = omega arith
    wide false false false = omega arith

    width : (c : ℕ) → 0 < len_utf8 c
    width c = wide (nat_lt c 0x80) (nat_lt c 0x800) (nat_lt c 0x1_0000)

-- the first letter of an identifier
pub first_letter : (w : List ℕ) → IsPiece (token Ident) w → (c : ℕ) × (cs : List ℕ) × (w ≡ c ∷ cs) × (is_letter c ≡ true)
first_letter [] piece = absurd (never_empty (token Ident) piece)
first_letter (c ∷ cs) piece = (c, cs, refl, (and_parts (is_letter c) (each is_word cs) piece.0).0)

-- ---- texts

pub unmarked_scalars : (cs : List ℕ) → all_scalars cs ≡ true → all_scalars (after_mark cs) ≡ true
unmarked_scalars [] h = h
unmarked_scalars (c ∷ cs) h = by_mark (c == byte_order_mark)
  where
    by_mark : (b : Bool) → all_scalars (if b then cs else c ∷ cs) ≡ true
    by_mark true = (and_parts (lib.Utf8.scalar c) (all_scalars cs) h).1
    by_mark false = h
