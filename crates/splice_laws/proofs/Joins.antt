-- What ends directly before a place ends before what is written there.
use Rattle.std.proofs.Common.{◌≡◌, ◌⊎◌, inl, inr, ℕ, ◌+◌, ◌<◌, Bool, true, false, cond, not, ◌&&◌, ◌||◌, nat_eq, nat_lt, nat_le, ◌==◌, bytes_eq, List, [], ◌∷◌, ◌++◌, length, take, drop, Option, Some, None, refl, sym, ap, subst, ◌∙◌, arith}
use Rattle.std.specs.Prelude.{encode_utf8_all, codes}
use Rattle.std.specs.Str.{all_scalars, chars}
use Rattle.std.proofs.lemmas.Bool.Decides.{nat_tests}
use Rattle.std.proofs.lemmas.Str.{chars-encodes}
use Rattle.ucd_category.specs.GeneralCategory.{general_category}
use Rattle.ucd_category.specs.GeneralCategoryRows.{general_category_rows}
use Rattle.ucd_table.specs.Rows.{value_in}
use Rattle.go_tree.specs.declared.tokens.Token.{Token}
use Rattle.go_tree.specs.declared.tokens.TokenKind.{TokenKind}
use Rattle.go_tree.specs.declared.tokens.TokenKind.TheVariants.{Ident, Keyword, Operator, Integer, Float, Imaginary, Rune, Str, Inserted}
use Rattle.go_tree.specs.GoWords.Tokens.Characters.{is_letter, is_word, is_blank, is_digit, byte_order_mark}
use Rattle.go_tree.specs.GoWords.Tokens.{size_of, tokens_at, due_after, pieces_size, span_of}
use Rattle.go_tree.specs.GoWords.Tokens.Forms.{HasForm}
use Rattle.go_tree.specs.GoWords.Tokens.Pieces.{PieceKind, blanks, remark, token, Piece, keyword_spellings, is_among, may_precede, IsPiece, IsNext}
use Rattle.go_scan.specs.Automaton.{next_of, is_whole, kind_in}
use Rattle.go_scan.specs.Pieces.{piece_of, Exact}
use Rattle.go_scan.proofs.Derivatives.{and_parts, and_true}
use Rattle.go_scan.proofs.AutomatonLemmas.{below, below_at, run}
use Rattle.go_scan.proofs.LexemeLemmas.{form_of, form_runs, run_dead}
use Rattle.go_scan.proofs.PieceKinds.{Sort, a_blank, a_letter, a_lexeme, sort_of, never_empty, one_kind}
use Rattle.go_scan.proofs.PieceLemmas.{piece_exact}
use Rattle.go_layout.proofs.LayoutLaws.NextTokens.{START, DEAD, stops, next_lexeme, next_name, next_keyword}
use Rattle.splice_laws.specs.Joints.{words_of, IsPart, PartsTo, EndsBefore, LastEnds, begins_with_dot, is_open, given}
use Rattle.splice_laws.specs.Splice.{has_length, are_two, is_inserted, stays_apart, are_apart, lead}
use Rattle.splice_laws.proofs.Ends.{clash, or_cases, not_whole}
use Rattle.splice_laws.proofs.Moves.{open_bytes}
use Rattle.splice_laws.proofs.Over.{ends_before, mark_begins_none, is_piece}

-- ---- a token before a blank

abbrev pub is_remark_kind : PieceKind → Bool
is_remark_kind remark = true
is_remark_kind _ = false

blank_checked : below 28 (λ s. nat_lt s 2 || (nat_eq (next_of s 32) DEAD || is_remark_kind (kind_in s))) ≡ true
unfolding below next_of
blank_checked = refl

lt_is : (a b : ℕ) → nat_lt a b ≡ true → a < b
lt_is a b e = grind (arith, nat_tests, e)

same_number : (a b : ℕ) → nat_eq a b ≡ true → a ≡ b
same_number a b e = grind (arith, nat_tests, e)

pub whole_state : (s : ℕ) → is_whole s ≡ true → (s < 28) × (nat_lt s 2 ≡ false)
whole_state s h = let p = and_parts (nat_le 2 s) (nat_lt s 28) h in (lt_is s 28 p.1, under s p.0)
  where
    under : (s : ℕ) → nat_le 2 s ≡ true → nat_lt s 2 ≡ false
    under s e = grind (arith, nat_tests, e)

pub blank_word : is_word 32 ≡ false
unfolding is_letter is_digit general_category general_category_rows value_in
blank_word = refl

blank_follows : (k : PieceKind) (w more : List ℕ) → may_precede k w (32 ∷ more) ≡ true
blank_follows blanks w more = refl
blank_follows remark w more = refl
blank_follows (token Ident) w more = refl
blank_follows (token Keyword) w more = refl
blank_follows (token Operator) w more = by_slash (lib_slash w)
  where
    lib_slash : List ℕ → Bool
    lib_slash w = bytes_eq w (codes "/")

    by_slash : (b : Bool) → cond b (not (32 == 42)) true ≡ true
    by_slash true = refl
    by_slash false = refl
blank_follows (token Integer) w more = rw blank_word refl
blank_follows (token Float) w more = rw blank_word refl
blank_follows (token Imaginary) w more = rw blank_word refl
blank_follows (token Rune) w more = refl
blank_follows (token Str) w more = refl
blank_follows (token Inserted) w more = refl

pub token_before_blank : (k : TokenKind) (w more : List ℕ) → IsPiece (token k) w → IsNext (w ++ 32 ∷ more) (token k) w (32 ∷ more)
token_before_blank k [] more piece = absurd (never_empty (token k) piece)
token_before_blank k (c ∷ cs) more piece = by_sort (sort_of (token k) c cs piece)
  where
    off : not (is_word 32) ≡ true
    off = rw blank_word refl

    letters : (b : Bool) → is_among keyword_spellings (c ∷ cs) ≡ b → token k ≡ cond b (token Keyword) (token Ident) → IsNext (c ∷ cs ++ 32 ∷ more) (token k) (c ∷ cs) (32 ∷ more)
    letters true x e = subst (λ (j : PieceKind). IsNext (c ∷ cs ++ 32 ∷ more) j (c ∷ cs) (32 ∷ more)) (sym e) (next_keyword (c ∷ cs) (32 ∷ more) x off)
    letters false x e = subst (λ (j : PieceKind). IsNext (c ∷ cs ++ 32 ∷ more) j (c ∷ cs) (32 ∷ more)) (sym e) (next_name (c ∷ cs) (32 ∷ more) (subst (λ (j : PieceKind). IsPiece j (c ∷ cs)) e piece) off)

    nope : token k ≡ blanks → ⊥
    nope e = cc

    no_remark : is_remark_kind (token k) ≡ true → ⊥
    no_remark e = cc

    by_sort : Sort (token k) c cs → IsNext (c ∷ cs ++ 32 ∷ more) (token k) (c ∷ cs) (32 ∷ more)
    by_sort (a_blank e _ _) = absurd (nope e)
    by_sort (a_letter e l h) = letters (is_among keyword_spellings (c ∷ cs)) refl e
    by_sort (a_lexeme b l form) =
        let facts = form_runs (token k) (c ∷ cs) form in
        let at = whole_state (run START (c ∷ cs)) facts.0 in
        let checked = below_at 28 (λ s. nat_lt s 2 || (nat_eq (next_of s 32) DEAD || is_remark_kind (kind_in s))) (run START (c ∷ cs)) blank_checked at.0 in
        let dead : nat_eq (next_of (run START (c ∷ cs)) 32) DEAD ≡ true =
        or_cases (nat_lt (run START (c ∷ cs)) 2) _ checked (λ q. clash (nat_lt (run START (c ∷ cs)) 2) q at.1)
        (λ q. or_cases (nat_eq (next_of (run START (c ∷ cs)) 32) DEAD) _ q (λ r. r) (λ r. absurd (no_remark (subst (λ (j : PieceKind). is_remark_kind j ≡ true) (sym facts.1) r)))) in
        next_lexeme (token k) c cs (32 ∷ more) b l piece dead (blank_follows (token k) (c ∷ cs) more)

-- ---- two that are read as two

pub two_next : (k : TokenKind) (w next : List ℕ) → IsPiece (token k) w → are_two w next ≡ true → IsNext (w ++ next) (token k) w next
unfolding are_two
two_next k w next piece h = by_answer (piece_of (w ++ next)) (piece_exact (w ++ next)) h
  where
    take_own : (xs : List ℕ) → take (length xs) (xs ++ next) ≡ xs
    take_own [] = refl
    take_own (x ∷ xs) = ap (λ (ys : List ℕ). x ∷ ys) (take_own xs)

    drop_own : (xs : List ℕ) → drop (length xs) (xs ++ next) ≡ next
    drop_own [] = refl
    drop_own (x ∷ xs) = drop_own xs

    by_answer : (o : Option (PieceKind × ℕ)) → Exact (w ++ next) o → has_length o (length w) ≡ true → IsNext (w ++ next) (token k) w next
    by_answer None x q = absurd cc
    by_answer (Some a) x q =
        let n : a.1 ≡ length w = same_number a.1 (length w) q in
        let here : IsNext (w ++ next) a.0 w next = subst (λ (v : List ℕ). IsNext (w ++ next) a.0 v next) (ap (λ (m : ℕ). take m (w ++ next)) n ∙ take_own w)
        (subst (λ (v : List ℕ). IsNext (w ++ next) a.0 (take a.1 (w ++ next)) v) (ap (λ (m : ℕ). drop m (w ++ next)) n ∙ drop_own w) x.0) in
        subst (λ (j : PieceKind). IsNext (w ++ next) j w next) (one_kind a.0 (token k) w here.spelled piece) here

-- ---- a comment

-- The comment is closed, and nothing goes on with it; or only a newline and what stands in no word ends it.
abbrev dies_at : ℕ → ℕ → Bool
dies_at s c = nat_eq (next_of s c) DEAD

abbrev pub ends_all : ℕ → Bool
ends_all s = below 128 (λ c. dies_at s c) && (dies_at s 128 && dies_at s byte_order_mark)

abbrev pub ends_none : ℕ → Bool
ends_none s = below 128 (λ c. is_whole (next_of s c) || (c == 10 || c == 0)) && is_whole (next_of s 128)

pub comments_checked : below 28 (λ s. nat_lt s 2 || (not (is_remark_kind (kind_in s)) || (ends_all s || ends_none s))) ≡ true
unfolding below next_of
comments_checked = refl

past_ascii : (s c : ℕ) (b : Bool) → nat_lt c 128 ≡ false → (c == byte_order_mark) ≡ b → next_of s c ≡ cond b (next_of s byte_order_mark) (next_of s 128)
unfolding next_of
past_ascii s c true far mark = rw (far, mark) refl
past_ascii s c false far mark = rw (far, mark) refl

all_end : (s c : ℕ) → ends_all s ≡ true → dies_at s c ≡ true
all_end s c h = by_ascii (nat_lt c 128) refl
  where
    p : (below 128 (λ c. dies_at s c) ≡ true) × (dies_at s 128 && dies_at s byte_order_mark ≡ true)
    p = and_parts (below 128 (λ c. dies_at s c)) (dies_at s 128 && dies_at s byte_order_mark) h

    q : (dies_at s 128 ≡ true) × (dies_at s byte_order_mark ≡ true)
    q = and_parts (dies_at s 128) (dies_at s byte_order_mark) p.1

    either_way : (b : Bool) → nat_eq (cond b (next_of s byte_order_mark) (next_of s 128)) DEAD ≡ true
    either_way true = q.1
    either_way false = q.0

    by_ascii : (b : Bool) → nat_lt c 128 ≡ b → dies_at s c ≡ true
    by_ascii true e = below_at 128 (λ c. dies_at s c) c p.0 (lt_is c 128 e)
    by_ascii false e = subst (λ (n : ℕ). nat_eq n DEAD ≡ true) (sym (past_ascii s c (c == byte_order_mark) e refl)) (either_way (c == byte_order_mark))

-- what begins no word
abbrev pub begins_none : ℕ → Bool
begins_none c = c == 10 || (c == 0 || c == byte_order_mark)

pub none_ends : (s c : ℕ) → ends_none s ≡ true → (is_whole (next_of s c) ≡ true) ⊎ (begins_none c ≡ true)
none_ends s c h = by_ascii (nat_lt c 128) refl
  where
    p : (below 128 (λ c. is_whole (next_of s c) || (c == 10 || c == 0)) ≡ true) × (is_whole (next_of s 128) ≡ true)
    p = and_parts (below 128 (λ c. is_whole (next_of s c) || (c == 10 || c == 0))) (is_whole (next_of s 128)) h

    either : (x y z : Bool) → x || y ≡ true → x || (y || z) ≡ true
    either true y z e = refl
    either false true z e = refl
    either false false z e = absurd cc

    last : (x y z : Bool) → z ≡ true → x || (y || z) ≡ true
    last true y z e = refl
    last false true z e = refl
    last false false z e = e

    by_mark : (b : Bool) → (c == byte_order_mark) ≡ b → next_of s c ≡ cond b (next_of s byte_order_mark) (next_of s 128) → (is_whole (next_of s c) ≡ true) ⊎ (begins_none c ≡ true)
    by_mark true e q = inr (last (c == 10) (c == 0) (c == byte_order_mark) e)
    by_mark false e q = inl (subst (λ (n : ℕ). is_whole n ≡ true) (sym q) p.1)

    by_ascii : (b : Bool) → nat_lt c 128 ≡ b → (is_whole (next_of s c) ≡ true) ⊎ (begins_none c ≡ true)
    by_ascii true e = or_cases (is_whole (next_of s c)) (c == 10 || c == 0) (below_at 128 (λ c. is_whole (next_of s c) || (c == 10 || c == 0)) c p.0 (lt_is c 128 e)) (λ q. inl q) (λ q. inr (either (c == 10) (c == 0) (c == byte_order_mark) q))
    by_ascii false e = by_mark (c == byte_order_mark) refl (past_ascii s c (c == byte_order_mark) e refl)

zero_letter : is_letter 0 ≡ false
unfolding is_letter general_category general_category_rows value_in
zero_letter = refl

zero_dead : next_of START 0 ≡ DEAD
unfolding next_of
zero_dead = refl

newline_letter : is_letter 10 ≡ false
unfolding is_letter general_category general_category_rows value_in
newline_letter = refl

-- no token begins with what begins no word
pub token_begins : (k : TokenKind) (c : ℕ) (cs : List ℕ) → IsPiece (token k) (c ∷ cs) → begins_none c ≡ true → ⊥
token_begins k c cs piece h = or_cases (c == 10) (c == 0 || c == byte_order_mark) h (λ q. newline cs (subst (λ (n : ℕ). IsPiece (token k) (n ∷ cs)) (same_number c 10 q) piece))
    (λ q. or_cases (c == 0) (c == byte_order_mark) q (λ r. nought cs (subst (λ (n : ℕ). IsPiece (token k) (n ∷ cs)) (same_number c 0 r) piece))
    (λ r. mark_begins_none (token k) cs (subst (λ (n : ℕ). IsPiece (token k) (n ∷ cs)) (same_number c byte_order_mark r) piece)))
  where
    no_blanks : token k ≡ blanks → ⊥
    no_blanks e = cc

    nope : is_whole DEAD ≡ true → ⊥
    nope e = cc

    newline : (cs : List ℕ) → IsPiece (token k) (10 ∷ cs) → ⊥
    newline cs p = by_sort (sort_of (token k) 10 cs p)
      where
        by_sort : Sort (token k) 10 cs → ⊥
        by_sort (a_blank e _ _) = no_blanks e
        by_sort (a_letter _ l _) = clash (is_letter 10) l newline_letter
        by_sort (a_lexeme b _ _) = clash (is_blank 10) refl b

    nought : (cs : List ℕ) → IsPiece (token k) (0 ∷ cs) → ⊥
    nought cs p = by_sort (sort_of (token k) 0 cs p)
      where
        by_sort : Sort (token k) 0 cs → ⊥
        by_sort (a_blank e _ _) = no_blanks e
        by_sort (a_letter _ l _) = clash (is_letter 0) l zero_letter
        by_sort (a_lexeme _ _ form) = nope (subst (λ (s : ℕ). is_whole s ≡ true) (ap (λ (s : ℕ). run s cs) zero_dead ∙ run_dead cs) (form_runs (token k) (0 ∷ cs) form).0)

-- a comment before what may begin a word, or before a blank that is no newline, is closed
pub remark_closed : (d : ℕ) (ds : List ℕ) (c : ℕ) (more : List ℕ) → IsNext (d ∷ ds ++ c ∷ more) remark (d ∷ ds) (c ∷ more) → (begins_none c ≡ true → ⊥) → HasForm (form_of remark) (d ∷ ds) → ends_all (run START (d ∷ ds)) ≡ true
remark_closed d ds c more next word form =
    let facts = form_runs remark (d ∷ ds) form in
    let at = whole_state (run START (d ∷ ds)) facts.0 in
    or_cases (nat_lt (run START (d ∷ ds)) 2) _ (below_at 28 (λ s. nat_lt s 2 || (not (is_remark_kind (kind_in s)) || (ends_all s || ends_none s))) (run START (d ∷ ds)) comments_checked at.0)
    (λ q. clash (nat_lt (run START (d ∷ ds)) 2) q at.1)
    (λ q. or_cases (not (is_remark_kind (kind_in (run START (d ∷ ds))))) _ q (λ r. absurd (nope (is_remark_kind (kind_in (run START (d ∷ ds)))) r (ap is_remark_kind (sym facts.1))))
    (λ r. or_cases (ends_all (run START (d ∷ ds))) (ends_none (run START (d ∷ ds))) r (λ t. t) (λ t. dies (none_ends (run START (d ∷ ds)) c t))))
  where
    nope : (b : Bool) → not b ≡ true → b ≡ true → ⊥
    nope true a b = cc
    nope false a b = cc

    dies : (is_whole (next_of (run START (d ∷ ds)) c) ≡ true) ⊎ (begins_none c ≡ true) → ends_all (run START (d ∷ ds)) ≡ true
    dies (inl h) = absurd (not_whole remark (d ∷ ds) c more next h)
    dies (inr h) = absurd (word h)

-- so it ends before whatever follows
pub remark_ends_any : (w : List ℕ) (c : ℕ) (more others : List ℕ) → IsNext (w ++ c ∷ more) remark w (c ∷ more) → (begins_none c ≡ true → ⊥) → IsNext (w ++ others) remark w others
remark_ends_any [] c more others next word = absurd (never_empty remark next.spelled)
remark_ends_any (d ∷ ds) c more others next word = by_sort (sort_of remark d ds next.spelled)
  where
    no_blanks : remark ≡ blanks → ⊥
    no_blanks e = cc

    no_word : (b : Bool) → remark ≡ cond b (token Keyword) (token Ident) → ⊥
    no_word true e = cc
    no_word false e = cc

    dead : (t : ℕ) → ends_all t ≡ true → stops t others ≡ true
    dead t h = by_list others
      where
        by_list : (xs : List ℕ) → stops t xs ≡ true
        by_list [] = refl
        by_list (x ∷ xs) = all_end t x h

    by_sort : Sort remark d ds → IsNext (d ∷ ds ++ others) remark (d ∷ ds) others
    by_sort (a_blank e _ _) = absurd (no_blanks e)
    by_sort (a_letter e _ _) = absurd (no_word (is_among keyword_spellings (d ∷ ds)) e)
    by_sort (a_lexeme b l form) = next_lexeme remark d ds others b l next.spelled (dead (run START (d ∷ ds)) (remark_closed d ds c more next word form)) refl

-- a comment before a token is closed, and ends before whatever follows
pub remark_ends : (w : List ℕ) (c : ℕ) (cs more others : List ℕ) (k : TokenKind) → IsNext (w ++ c ∷ more) remark w (c ∷ more) → IsPiece (token k) (c ∷ cs) → IsNext (w ++ others) remark w others
remark_ends w c cs more others k next piece = remark_ends_any w c more others next (λ q. token_begins k c cs piece q)

-- ---- the last part before a place

pub later_tokens_apart : (xs ys : List Token) (at : ℕ) (next : List ℕ) → are_apart (xs ++ ys) at next ≡ true → are_apart ys at next ≡ true
later_tokens_apart [] ys at next h = h
later_tokens_apart (x ∷ xs) ys at next h = later_tokens_apart xs ys at next (and_parts (stays_apart at next x) (are_apart (xs ++ ys) at next) h).1

pub earlier_tokens_apart : (xs ys : List Token) (at : ℕ) (next : List ℕ) → are_apart (xs ++ ys) at next ≡ true → are_apart xs at next ≡ true
earlier_tokens_apart [] ys at next h = refl
earlier_tokens_apart (x ∷ xs) ys at next h = let p = and_parts (stays_apart at next x) (are_apart (xs ++ ys) at next) h in and_true (stays_apart at next x) (are_apart xs at next) p.0 (earlier_tokens_apart xs ys at next p.1)

given_next : (p : Piece) (ps : List Piece) (at : ℕ) (due : Option ℕ) → given at due (p ∷ ps) ≡ tokens_at at due p.kind p.word ++ given (at + size_of p.word) (due_after at due p.kind p.word) ps
unfolding given
given_next p ps at due = refl

same_place : (a b : ℕ) → a ≡ b → nat_eq a b ≡ true
same_place a b e = grind (arith, nat_tests, e)

-- what one token says
one_apart : (k : TokenKind) (w : List ℕ) (at place : ℕ) (next : List ℕ) → IsPiece (token k) w → all_scalars w ≡ true → at + size_of w ≡ place → stays_apart place next (record { span = span_of at w; kind = k; spelling = encode_utf8_all w }) ≡ true → (are_two w next ≡ true) × (not (is_open k (encode_utf8_all w) && begins_with_dot next) ≡ true)
unfolding stays_apart
one_apart k w at place next piece scalars e h = by_kind (is_inserted k) refl h
  where
    no_inserted : (k : TokenKind) → is_inserted k ≡ true → IsPiece (token k) w → ⊥
    no_inserted Ident q p = absurd cc q
    no_inserted Keyword q p = absurd cc q
    no_inserted Operator q p = absurd cc q
    no_inserted Integer q p = absurd cc q
    no_inserted Float q p = absurd cc q
    no_inserted Imaginary q p = absurd cc q
    no_inserted Rune q p = absurd cc q
    no_inserted Str q p = absurd cc q
    no_inserted Inserted q p = p

    both : are_two (chars (encode_utf8_all w)) next && not (is_open k (encode_utf8_all w) && begins_with_dot next) ≡ true → (are_two w next ≡ true) × (not (is_open k (encode_utf8_all w) && begins_with_dot next) ≡ true)
    both x = let p = and_parts (are_two (chars (encode_utf8_all w)) next) (not (is_open k (encode_utf8_all w) && begins_with_dot next)) x in (subst (λ (v : List ℕ). are_two v next ≡ true) (chars-encodes w scalars) p.0, p.1)

    by_end : (b : Bool) → b ≡ true → not b || (are_two (chars (encode_utf8_all w)) next && not (is_open k (encode_utf8_all w) && begins_with_dot next)) ≡ true → (are_two w next ≡ true) × (not (is_open k (encode_utf8_all w) && begins_with_dot next) ≡ true)
    by_end true q x = both x
    by_end false q x = absurd cc

    by_kind : (b : Bool) → is_inserted k ≡ b → b || (not (nat_eq (at + size_of w) place) || (are_two (chars (encode_utf8_all w)) next && not (is_open k (encode_utf8_all w) && begins_with_dot next))) ≡ true → (are_two w next ≡ true) × (not (is_open k (encode_utf8_all w) && begins_with_dot next) ≡ true)
    by_kind true q x = absurd (no_inserted k q piece)
    by_kind false q x = by_end (nat_eq (at + size_of w) place) (same_place (at + size_of w) place e) x

pub scalars_parts : (xs ys : List ℕ) → all_scalars (xs ++ ys) ≡ true → (all_scalars xs ≡ true) × (all_scalars ys ≡ true)
scalars_parts [] ys h = (refl, h)
scalars_parts (c ∷ xs) ys h =
    let p = and_parts (lib.Utf8.scalar c) (all_scalars (xs ++ ys)) h in
    let q = scalars_parts xs ys p.1 in
    (and_true (lib.Utf8.scalar c) (all_scalars xs) p.0 q.0, q.1)

-- what is written begins with these characters
pub last_ends : (ps : List Piece) (j : TokenKind) (word : List ℕ) (others : List Piece) (text : List ℕ) (at : ℕ) (due : Option ℕ) (blank : Bool) (c : ℕ) (cs more : List ℕ) → all_scalars (words_of ps) ≡ true
    → PartsTo text (ps ++ (record { kind = token j; word = word } ∷ others)) [] → (blank ≡ false → are_apart (given at due ps) (at + pieces_size ps) (c ∷ cs) ≡ true) → LastEnds ps ((lead blank ++ c ∷ cs) ++ more)
last_ends [] j word others text at due blank c cs more scalars parts h = tt
last_ends (p ∷ []) j word others text at due blank c cs more scalars parts h = by_kind p.kind p.word refl parts.2 (scalars_parts p.word [] scalars).0 (λ q. subst (λ (ts : List Token). are_apart ts (at + (size_of p.word + 0)) (c ∷ cs) ≡ true) (given_next p [] at due) (h q))
  where
    -- the token behind it
    after : IsPiece (token j) word
    after = is_piece (token j) word parts.3.0 parts.3.2

    starts : parts.0 ≡ word ++ parts.3.0
    starts = parts.3.1

    none : (b : Bool) (w : List ℕ) → IsPart blanks w [] → EndsBefore (record { kind = blanks; word = w }) ((lead b ++ c ∷ cs) ++ more)
    none true w x = λ others. x
    none false w x = λ others. x

    comments : (b : Bool) (w v : List ℕ) → word ≡ v → IsPiece (token j) v → IsNext (w ++ (v ++ parts.3.0)) remark w (v ++ parts.3.0) → EndsBefore (record { kind = remark; word = w }) ((lead b ++ c ∷ cs) ++ more)
    comments b w [] e x y = absurd (never_empty (token j) x)
    comments true w (d ∷ ds) e x y = λ others. remark_ends w d ds (ds ++ parts.3.0) (32 ∷ others) j y x
    comments false w (d ∷ ds) e x y = λ others. remark_ends w d ds (ds ++ parts.3.0) (c ∷ others) j y x

    no_dot : (k : TokenKind) (w : List ℕ) → (j : TokenKind) × (token k ≡ token j) × (is_open j (encode_utf8_all w) ≡ true) → c == 46 ≡ true → not (is_open k (encode_utf8_all w) && c == 46) ≡ true → ⊥
    no_dot k w o dot q =
        let same : k ≡ o.0 = kind_in o.1 in
        nope (is_open k (encode_utf8_all w) && c == 46) q (and_true (is_open k (encode_utf8_all w)) (c == 46) (subst (λ (j : TokenKind). is_open j (encode_utf8_all w) ≡ true) (sym same) o.2) dot)
      where
        kind_in : token k ≡ token o.0 → k ≡ o.0
        kind_in e = cc

        nope : (b : Bool) → not b ≡ true → b ≡ true → ⊥
        nope true x y = cc
        nope false x y = cc

    tokens : (b : Bool) (k : TokenKind) (w : List ℕ) → IsPiece (token k) w → all_scalars w ≡ true → (b ≡ false → are_apart (tokens_at at due (token k) w ++ given (at + size_of w) (due_after at due (token k) w) []) (at + (size_of w + 0)) (c ∷ cs) ≡ true)
        → EndsBefore (record { kind = token k; word = w }) ((lead b ++ c ∷ cs) ++ more)
    tokens true k w x sc y = λ others. token_before_blank k w others x
    tokens false k w x sc y =
        let first = (and_parts (stays_apart (at + (size_of w + 0)) (c ∷ cs) (record { span = span_of at w; kind = k; spelling = encode_utf8_all w })) _ (y refl)).0 in
        let size : at + size_of w ≡ at + (size_of w + 0) = omega arith in
        let one = one_apart k w at (at + (size_of w + 0)) (c ∷ cs) x sc size first in
        ends_before (record { kind = token k; word = w }) (c ∷ cs) (two_next k w (c ∷ cs) x one.0) (λ dot runs. no_dot k w (open_bytes (record { kind = token k; word = w }) runs) dot one.1)

    by_kind : (k : PieceKind) (w : List ℕ) → p.word ≡ w → IsPart k w parts.0 → all_scalars w ≡ true → (blank ≡ false → are_apart (tokens_at at due k w ++ given (at + size_of w) (due_after at due k w) []) (at + (size_of w + 0)) (c ∷ cs) ≡ true)
        → EndsBefore (record { kind = k; word = w }) ((lead blank ++ c ∷ cs) ++ more)
    by_kind blanks w e x sc y = none blank w x
    by_kind remark w e x sc y = comments blank w word refl after (subst (λ (t : List ℕ). IsNext (w ++ t) remark w t) starts x)
    by_kind (token k) w e x sc y = tokens blank k w x.spelled sc y
last_ends (p ∷ q ∷ ps) j word others text at due blank c cs more scalars parts h =
    let place : at + size_of p.word + (size_of q.word + pieces_size ps) ≡ at + (size_of p.word + (size_of q.word + pieces_size ps)) = omega arith in
    last_ends (q ∷ ps) j word others parts.0 (at + size_of p.word) (due_after at due p.kind p.word) blank c cs more (scalars_parts p.word (words_of (q ∷ ps)) scalars).1 parts.3
    (λ e. subst (λ (n : ℕ). are_apart (given (at + size_of p.word) (due_after at due p.kind p.word) (q ∷ ps)) n (c ∷ cs) ≡ true) (sym place)
    (later_tokens_apart (tokens_at at due p.kind p.word) (given (at + size_of p.word) (due_after at due p.kind p.word) (q ∷ ps)) (at + (size_of p.word + (size_of q.word + pieces_size ps))) (c ∷ cs)
    (subst (λ (ts : List Token). are_apart ts (at + (size_of p.word + (size_of q.word + pieces_size ps))) (c ∷ cs) ≡ true) (given_next p (q ∷ ps) at due) (h e))))
