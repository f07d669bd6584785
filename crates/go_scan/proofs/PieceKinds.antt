-- A piece has one kind.
use Rattle.std.proofs.Common.{◌≡◌, ℕ, ◌<◌, Bool, true, false, cond, not, ◌&&◌, ◌||◌, nat_eq, nat_lt, ◌==◌, List, [], ◌∷◌, refl, sym, ap, subst, ◌∙◌, arith, bytes_eq}
use Rattle.std.proofs.lemmas.Bool.Decides.{nat_tests}
use Rattle.std.specs.List.{list_all}
use Rattle.ucd_category.specs.GeneralCategory.{general_category}
use Rattle.ucd_category.specs.GeneralCategoryRows.{general_category_rows}
use Rattle.ucd_table.specs.Rows.{value_in}
use Rattle.go_tree.specs.declared.tokens.TokenKind.TheVariants.{Ident, Keyword, Operator, Integer, Float, Imaginary, Rune, Str, Inserted}
use Rattle.go_tree.specs.GoWords.Tokens.Characters.{is_letter, is_digit, is_word, is_blank, each, byte_order_mark}
use Rattle.go_tree.specs.GoWords.Tokens.Forms.{HasForm}
use Rattle.go_tree.specs.GoWords.Tokens.Pieces.{PieceKind, blanks, remark, token, keyword_spellings, is_among, is_identifier, IsPiece}
use Rattle.go_scan.specs.declared.automaton.TheConstants.{START, DEAD}
use Rattle.go_scan.specs.Automaton.{next_of, is_whole, kind_in}
use Rattle.go_scan.proofs.Derivatives.{and_parts}
use Rattle.go_scan.proofs.AutomatonLemmas.{below, below_at, run}
use Rattle.go_scan.proofs.LexemeLemmas.{form_of, form_runs, run_dead}

-- ---- first characters

-- characters of ASCII: a blank is no letter, and neither begins a word of the automaton
abbrev blanks_apart : ℕ → Bool
blanks_apart c = not (is_blank c) || (not (is_letter c) && nat_eq (next_of START c) DEAD)

abbrev letters_apart : ℕ → Bool
letters_apart c = not (is_letter c) || nat_eq (next_of START c) DEAD

ascii_blanks : below 128 blanks_apart ≡ true
unfolding below is_letter general_category general_category_rows value_in next_of
ascii_blanks = refl

ascii_letters : below 128 letters_apart ≡ true
unfolding below is_letter general_category general_category_rows value_in next_of
ascii_letters = refl

past_ascii : (b : Bool) (c : ℕ) → nat_lt c 128 ≡ false → (c == byte_order_mark) ≡ b → next_of START c ≡ DEAD
unfolding next_of
past_ascii true c far mark = rw (far, mark) refl
past_ascii false c far mark = rw (far, mark) refl

same_number : (a b : ℕ) → nat_eq a b ≡ true → a ≡ b
same_number a b e = grind (arith, nat_tests, e)

lt_is : (a b : ℕ) → nat_lt a b ≡ true → a < b
lt_is a b e = grind (arith, nat_tests, e)

taken : (a b : Bool) → a ≡ true → not a || b ≡ true → b ≡ true
taken true b p h = h
taken false b p h = absurd cc

blank_small : (c : ℕ) → is_blank c ≡ true → c < 128
blank_small c h = grind (arith, nat_tests, h)

not_true : (b : Bool) → not b ≡ true → b ≡ false
not_true true h = absurd cc
not_true false h = refl

blank_parts : (c : ℕ) → is_blank c ≡ true → (is_letter c ≡ false) × (next_of START c ≡ DEAD)
blank_parts c h =
    let both_parts = taken (is_blank c) (not (is_letter c) && nat_eq (next_of START c) DEAD) h (below_at 128 blanks_apart c ascii_blanks (blank_small c h)) in
    let parts = and_parts (not (is_letter c)) (nat_eq (next_of START c) DEAD) both_parts in
    (not_true (is_letter c) parts.0, same_number (next_of START c) DEAD parts.1)

pub blank_no_letter : (c : ℕ) → is_blank c ≡ true → is_letter c ≡ false
blank_no_letter c h = (blank_parts c h).0

letter_dead : (c : ℕ) → is_letter c ≡ true → next_of START c ≡ DEAD
letter_dead c h = by_ascii (nat_lt c 128) refl
  where
    by_ascii : (b : Bool) → nat_lt c 128 ≡ b → next_of START c ≡ DEAD
    by_ascii true e = same_number (next_of START c) DEAD (taken (is_letter c) (nat_eq (next_of START c) DEAD) h (below_at 128 letters_apart c ascii_letters (lt_is c 128 e)))
    by_ascii false e = past_ascii (c == byte_order_mark) c e refl

-- the automaton's words begin with neither
lexeme_first : (k : PieceKind) (c : ℕ) (cs : List ℕ) → next_of START c ≡ DEAD → HasForm (form_of k) (c ∷ cs) → ⊥
lexeme_first k c cs dead h =
    let whole = (form_runs k (c ∷ cs) h).0 in
    nope (subst (λ (s : ℕ). is_whole s ≡ true) (ap (λ (s : ℕ). run s cs) dead ∙ run_dead cs) whole)
  where
    nope : is_whole DEAD ≡ true → ⊥
    nope e = cc

lexeme_not_empty : (k : PieceKind) → HasForm (form_of k) [] → ⊥
lexeme_not_empty k h = nope (form_runs k [] h).0
  where
    nope : is_whole START ≡ true → ⊥
    nope e = cc

-- ---- keywords are identifiers

bytes_same : (xs ys : List ℕ) → bytes_eq xs ys ≡ true → xs ≡ ys
bytes_same [] [] h = refl
bytes_same [] (y ∷ ys) h = absurd cc
bytes_same (x ∷ xs) [] h = absurd cc
bytes_same (x ∷ xs) (y ∷ ys) h =
    let p = and_parts (nat_eq x y) (bytes_eq xs ys) h in
    ap (λ (z : ℕ). z ∷ xs) (same_number x y p.0) ∙ ap (λ (zs : List ℕ). y ∷ zs) (bytes_same xs ys p.1)

among_first : (b : Bool) (test : List ℕ → Bool) (x w : List ℕ) (others : Bool) → bytes_eq w x ≡ b → test x ≡ true → (others ≡ true → test w ≡ true) → b || others ≡ true → test w ≡ true
among_first true test x w others e t rest h = subst (λ (ys : List ℕ). test ys ≡ true) (sym (bytes_same w x e)) t
among_first false test x w others e t rest h = rest h

pub among_passes : (test : List ℕ → Bool) (list : List (List ℕ)) (w : List ℕ) → list_all test list ≡ true → is_among list w ≡ true → test w ≡ true
among_passes test [] w all h = absurd cc
among_passes test (x ∷ xs) w all h =
    let p = and_parts (test x) (list_all test xs) all in
    among_first (bytes_eq w x) test x w (is_among xs w) refl p.0 (λ i. among_passes test xs w p.1 i) h

all_identifiers : list_all is_identifier keyword_spellings ≡ true
unfolding keyword_spellings is_letter is_digit general_category general_category_rows value_in
all_identifiers = refl

pub keyword_identifier : (w : List ℕ) → is_among keyword_spellings w ≡ true → is_identifier w ≡ true
keyword_identifier w h = among_passes is_identifier keyword_spellings w all_identifiers h

-- ---- the kind

abbrev pub word_kind : List ℕ → PieceKind
word_kind w = cond (is_among keyword_spellings w) (token Keyword) (token Ident)

-- the kind of a piece by its first character
abbrev pub kind_by_first : ℕ → List ℕ → PieceKind
kind_by_first c cs = cond (is_blank c) blanks (cond (is_letter c) (word_kind (c ∷ cs)) (kind_in (run START (c ∷ cs))))

abbrev pub kind_of : List ℕ → PieceKind
kind_of [] = blanks
kind_of (c ∷ cs) = kind_by_first c cs

-- what the first character says
pub data Sort (k : PieceKind) (c : ℕ) (cs : List ℕ) : Type 0 where
  a_blank : k ≡ blanks → is_blank c ≡ true → each is_blank cs ≡ true → Sort k c cs
  a_letter : k ≡ word_kind (c ∷ cs) → is_letter c ≡ true → each is_word cs ≡ true → Sort k c cs
  a_lexeme : is_blank c ≡ false → is_letter c ≡ false → HasForm (form_of k) (c ∷ cs) → Sort k c cs

lexeme_sort : (k : PieceKind) (c : ℕ) (cs : List ℕ) → HasForm (form_of k) (c ∷ cs) → Sort k c cs
lexeme_sort k c cs h = by_blank (is_blank c) (is_letter c) refl refl
  where
    by_blank : (a b : Bool) → is_blank c ≡ a → is_letter c ≡ b → Sort k c cs
    by_blank true b x y = absurd (lexeme_first k c cs (blank_parts c x).1 h)
    by_blank false true x y = absurd (lexeme_first k c cs (letter_dead c y) h)
    by_blank false false x y = a_lexeme x y h

word_sort : (k : PieceKind) (c : ℕ) (cs : List ℕ) → k ≡ word_kind (c ∷ cs) → is_identifier (c ∷ cs) ≡ true → Sort k c cs
word_sort k c cs e h = let p = and_parts (is_letter c) (each is_word cs) h in a_letter e p.0 p.1

pub sort_of : (k : PieceKind) (c : ℕ) (cs : List ℕ) → IsPiece k (c ∷ cs) → Sort k c cs
sort_of blanks c cs h = let p = and_parts (is_blank c) (each is_blank cs) h in a_blank refl p.0 p.1
sort_of remark c cs h = lexeme_sort remark c cs h
sort_of (token Ident) c cs h = word_sort (token Ident) c cs (rw h.1 refl) h.0
sort_of (token Keyword) c cs h = word_sort (token Keyword) c cs (rw h refl) (keyword_identifier (c ∷ cs) h)
sort_of (token Operator) c cs h = lexeme_sort (token Operator) c cs h
sort_of (token Integer) c cs h = lexeme_sort (token Integer) c cs h
sort_of (token Float) c cs h = lexeme_sort (token Float) c cs h
sort_of (token Imaginary) c cs h = lexeme_sort (token Imaginary) c cs h
sort_of (token Rune) c cs h = lexeme_sort (token Rune) c cs h
sort_of (token Str) c cs h = lexeme_sort (token Str) c cs h
sort_of (token Inserted) c cs h = absurd h

pub never_empty : (k : PieceKind) → IsPiece k [] → ⊥
unfolding keyword_spellings
never_empty blanks h = absurd cc
never_empty remark h = lexeme_not_empty remark h
never_empty (token Ident) h = absurd cc h.0
never_empty (token Keyword) h = absurd cc
never_empty (token Operator) h = lexeme_not_empty (token Operator) h
never_empty (token Integer) h = lexeme_not_empty (token Integer) h
never_empty (token Float) h = lexeme_not_empty (token Float) h
never_empty (token Imaginary) h = lexeme_not_empty (token Imaginary) h
never_empty (token Rune) h = lexeme_not_empty (token Rune) h
never_empty (token Str) h = lexeme_not_empty (token Str) h
never_empty (token Inserted) h = h

kind_is : (k : PieceKind) (c : ℕ) (cs : List ℕ) → Sort k c cs → k ≡ kind_by_first c cs
kind_is k c cs (a_blank e b _) = e ∙ sym (rw b refl)
kind_is k c cs (a_letter e l _) = by_blank (is_blank c) refl
  where
    clash : (b : Bool) → b ≡ true → b ≡ false → ⊥
    clash b p q = cc

    by_blank : (b : Bool) → is_blank c ≡ b → k ≡ kind_by_first c cs
    by_blank true x = absurd (clash (is_letter c) l (blank_no_letter c x))
    by_blank false x = e ∙ sym (rw (x, l) refl)
kind_is k c cs (a_lexeme b l h) = (form_runs k (c ∷ cs) h).1 ∙ sym (rw (b, l) refl)

pub one_kind : (j k : PieceKind) (w : List ℕ) → IsPiece j w → IsPiece k w → j ≡ k
one_kind j k [] x y = absurd (never_empty j x)
one_kind j k (c ∷ cs) x y = kind_is j c cs (sort_of j c cs x) ∙ sym (kind_is k c cs (sort_of k c cs y))
