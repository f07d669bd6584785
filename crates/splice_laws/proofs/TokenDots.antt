-- In a text of a file in which no integer literal stands before a dot, no integer and no dot stands directly before a dot.
use Rattle.std.proofs.Common.{◌≡◌, ℕ, ◌+◌, Bool, true, false, not, ◌&&◌, ◌==◌, List, [], ◌∷◌, ◌++◌, Option, Some, None, refl, sym, ap, subst, ◌∙◌, arith, get_or}
use Rattle.std.specs.Prelude.{encode_utf8_all, bytes_eq, nat_eq, if◌then◌else◌, codes}
use Rattle.std.specs.Str.{chars, IsUtf8}
use Rattle.std.proofs.lemmas.Bool.Decides.{nat_tests}
use Rattle.ucd_category.specs.GeneralCategory.{general_category}
use Rattle.ucd_category.specs.GeneralCategoryRows.{general_category_rows}
use Rattle.ucd_table.specs.Rows.{value_in}
use Rattle.std.proofs.lemmas.Str.{chars-encodes, inside_one, length-encode, len_utf8_bounds}
use Rattle.go_tree.specs.declared.spans.Span.{Span}
use Rattle.go_tree.specs.declared.tokens.Token.{Token}
use Rattle.go_tree.specs.declared.tokens.Comment.{Comment}
use Rattle.go_tree.specs.declared.tokens.TokenKind.{TokenKind}
use Rattle.go_tree.specs.declared.tokens.TokenKind.TheVariants.{Ident, Keyword, Operator, Integer, Float, Imaginary, Rune, Str, Inserted}
use Rattle.go_tree.specs.File.{File}
use Rattle.go_tree.specs.FileBare.{bare_file}
use Rattle.go_tree.specs.GoWords.Tokens.Characters.{is_listed, is_letter, is_word, each}
use Rattle.go_tree.specs.GoWords.Tokens.Forms.{Form, nothing, empty, one_of, other_than, both, either, many, HasForm, without, listed, unlisted, joined, the_one, the_other, no_more, once_more}
use Rattle.go_tree.specs.GoWords.Tokens.Literals.{int_lit, rune_lit, string_lit}
use Rattle.go_tree.specs.GoWords.Tokens.{TokensOf, after_mark, mark_size, tokens_at, size_of, inserted, due_after, tokens_from}
use Rattle.go_tree.specs.GoWords.Tokens.Pieces.{PieceKind, blanks, remark, token, Piece, IsPiece, CutsTo}
use Rattle.go_scan.proofs.Derivatives.{and_parts, and_true}
use Rattle.go_tree.specs.GoWords.Terminals.{Terminal, lex, ellipsis, foreign, terminal_of, lexemes}
use Rattle.go_read.specs.SpellsTypes.{Lexemes}
use Rattle.go_read.specs.SpellsSpans.{span_to}
use Rattle.go_read.specs.SpellsFiles.{SpellsFile}
use Rattle.go_read.specs.Bareness.{nowhere}
use Rattle.go_read.proofs.SpansAside as aside
use Rattle.go_layout.specs.LayoutLaws.Real.{IsReal, AreReal}
use Rattle.go_layout.proofs.LayoutLaws.RealTokens.{tokens_real}
use Rattle.splice_laws.specs.Joints.{begins_with_dot, is_open, runs_on, dots_apart}
use Rattle.splice_laws.specs.Dots.{UndottedFile}
use Rattle.splice_laws.proofs.Ends.{clash}
use Rattle.splice_laws.proofs.Dots.{is_dot, dot_first, fits_before, dots_fit, file_dots}

-- ---- forms

-- every word of the form has a character
abbrev has_character : Form → Bool
has_character nothing = true
has_character empty = false
has_character (one_of _) = true
has_character (other_than _) = true
has_character (both f _) = has_character f
has_character (either f g) = has_character f && has_character g
has_character (many _) = false

-- no word of the form begins with a dot
abbrev no_dot_begins : Form → Bool
no_dot_begins nothing = true
no_dot_begins empty = true
no_dot_begins (one_of cs) = not (is_listed cs 46)
no_dot_begins (other_than cs) = is_listed cs 46
no_dot_begins (both f _) = no_dot_begins f && has_character f
no_dot_begins (either f g) = no_dot_begins f && no_dot_begins g
no_dot_begins (many _) = false

same_number : (a b : ℕ) → nat_eq a b ≡ true → a ≡ b
same_number a b e = grind (arith, nat_tests, e)

contrary : (b : Bool) → not b ≡ true → b ≡ true → ⊥
contrary true e f = cc
contrary false e f = cc

first_character : {f : Form} {w : List ℕ} → HasForm f w → has_character f ≡ true → (c : ℕ) × (cs : List ℕ) × (w ≡ c ∷ cs)
first_character without q = absurd cc
first_character (listed cs c e) q = (c, [], refl)
first_character (unlisted cs c e) q = (c, [], refl)
first_character (joined f g front back w e a b) q = let x = first_character a q in (x.0, x.1 ++ back, e ∙ ap (λ (v : List ℕ). v ++ back) x.2)
first_character (the_one f g w a) q = first_character a (and_parts (has_character f) (has_character g) q).0
first_character (the_other f g w a) q = first_character a (and_parts (has_character f) (has_character g) q).1
first_character (no_more f) q = absurd cc
first_character (once_more f front back w e a b) q = absurd cc

no_dot_form : {f : Form} {w : List ℕ} → HasForm f w → no_dot_begins f ≡ true → begins_with_dot w ≡ true → ⊥
no_dot_form without q d = absurd cc
no_dot_form (listed cs c e) q d = contrary (is_listed cs 46) q (subst (λ (n : ℕ). is_listed cs n ≡ true) (same_number c 46 d) e)
no_dot_form (unlisted cs c e) q d = clash (is_listed cs 46) q (subst (λ (n : ℕ). is_listed cs n ≡ false) (same_number c 46 d) e)
no_dot_form (joined f g front back w e a b) q d =
    let p = and_parts (no_dot_begins f) (has_character f) q in
    let x = first_character a p.1 in
    no_dot_form a p.0 (ap begins_with_dot x.2 ∙ sym (ap begins_with_dot (e ∙ ap (λ (v : List ℕ). v ++ back) x.2)) ∙ d)
no_dot_form (the_one f g w a) q d = no_dot_form a (and_parts (no_dot_begins f) (no_dot_begins g) q).0 d
no_dot_form (the_other f g w a) q d = no_dot_form a (and_parts (no_dot_begins f) (no_dot_begins g) q).1 d
no_dot_form (no_more f) q d = absurd cc
no_dot_form (once_more f front back w e a b) q d = absurd cc

integers : no_dot_begins int_lit ≡ true
unfolding int_lit
integers = refl

runes : no_dot_begins rune_lit ≡ true
unfolding rune_lit
runes = refl

strings : no_dot_begins string_lit ≡ true
unfolding string_lit
strings = refl

no_letter : is_letter 46 ≡ false
unfolding is_letter general_category general_category_rows value_in
no_letter = refl

no_dot_name : (w : List ℕ) → IsPiece (token Ident) w → begins_with_dot w ≡ true → ⊥
no_dot_name [] p d = cc
no_dot_name (c ∷ cs) p d = clash (is_letter c) (and_parts (is_letter c) (each is_word cs) p.0).0 (subst (λ (n : ℕ). is_letter n ≡ false) (sym (same_number c 46 d)) no_letter)

-- ---- bytes and characters

dot_is : (w : List ℕ) → begins_with_dot w ≡ true → (more : List ℕ) × (w ≡ 46 ∷ more)
dot_is [] d = absurd cc
dot_is (c ∷ cs) d = (cs, ap (λ (n : ℕ). n ∷ cs) (same_number c 46 d))

pub dot_letter : (cs : List ℕ) → begins_with_dot (encode_utf8_all cs) ≡ true → begins_with_dot cs ≡ true
dot_letter [] d = d
dot_letter (c ∷ cs) d =
    let x = dot_is (encode_utf8_all (c ∷ cs)) d in
    let first : get_or (encode_utf8_all (c ∷ cs)) 0 0 ≡ 46 = ap (λ (l : List ℕ). get_or l 0 0) x.1 in
    let is : c ≡ get_or (encode_utf8_all (c ∷ cs)) 0 0 = inside_one c (encode_utf8_all cs) (encode_utf8_all (c ∷ cs)) 0 refl (omega (arith, length-encode c, (len_utf8_bounds c).0)) (omega (arith, first)) in
    ap (λ (n : ℕ). n == 46) (is ∙ first)

dot_character : (w : List ℕ) → IsUtf8 w → begins_with_dot w ≡ true → begins_with_dot (chars w) ≡ true
dot_character w u d =
    let x = dot_letter u.0 (ap begins_with_dot u.1.1 ∙ d) in
    subst (λ (v : List ℕ). begins_with_dot v ≡ true) (sym (chars-encodes u.0 u.1.0) ∙ ap chars u.1.1) x

-- ---- tokens

second_dot : (k : TokenKind) (w : List ℕ) (r : Lexemes) → IsReal (terminal_of k w) → (k ≡ Inserted → begins_with_dot w ≡ false) → fits_before (terminal_of k w) r ≡ true → begins_with_dot w ≡ true → is_dot (terminal_of k w) ≡ true
second_dot Ident w r real own fit d = absurd (no_dot_name (chars w) real.1 (dot_character w real.0 d))
second_dot Integer w r real own fit d = absurd (integer (chars w) real.1 (dot_character w real.0 d))
  where
    integer : (v : List ℕ) → HasForm int_lit v → begins_with_dot v ≡ true → ⊥
    integer v h e = no_dot_form h integers e
second_dot Rune w r real own fit d = absurd (a_rune (chars w) real.1 (dot_character w real.0 d))
  where
    a_rune : (v : List ℕ) → HasForm rune_lit v → begins_with_dot v ≡ true → ⊥
    a_rune v h e = no_dot_form h runes e
second_dot Str w r real own fit d = absurd (a_string (chars w) real.1 (dot_character w real.0 d))
  where
    a_string : (v : List ℕ) → HasForm string_lit v → begins_with_dot v ≡ true → ⊥
    a_string v h e = no_dot_form h strings e
second_dot Float w r real own fit d = absurd cc
second_dot Imaginary w r real own fit d = absurd cc
second_dot Inserted w r real own fit d = clash (begins_with_dot w) d (own refl)
second_dot Keyword w r real own fit d = by_word (dot_is w d)
  where
    no_key : (more : List ℕ) → fits_before (terminal_of Keyword (46 ∷ more)) r ≡ false
    no_key more = refl

    by_word : (more : List ℕ) × (w ≡ 46 ∷ more) → is_dot (terminal_of Keyword w) ≡ true
    by_word x = clash (fits_before (terminal_of Keyword w) r) fit (ap (λ (v : List ℕ). fits_before (terminal_of Keyword v) r) x.1 ∙ no_key x.0)
second_dot Operator w r real own fit d = by_word (dot_is w d)
  where
    by_flag : (b : Bool) → fits_before (if b then ellipsis else foreign) r ≡ true → is_dot (if b then ellipsis else foreign) ≡ true
    by_flag true q = refl
    by_flag false q = absurd cc

    by_more : (more : List ℕ) → fits_before (terminal_of Operator (46 ∷ more)) r ≡ true → is_dot (terminal_of Operator (46 ∷ more)) ≡ true
    by_more [] q = refl
    by_more (c ∷ more) q = by_flag (bytes_eq (codes "...") (46 ∷ c ∷ more)) q

    by_word : (more : List ℕ) × (w ≡ 46 ∷ more) → is_dot (terminal_of Operator w) ≡ true
    by_word x = ap (λ (v : List ℕ). is_dot (terminal_of Operator v)) x.1 ∙ by_more x.0 (subst (λ (v : List ℕ). fits_before (terminal_of Operator v) r ≡ true) x.1 fit)

bytes_same : (xs ys : List ℕ) → bytes_eq xs ys ≡ true → xs ≡ ys
bytes_same [] [] h = refl
bytes_same [] (y ∷ ys) h = absurd cc
bytes_same (x ∷ xs) [] h = absurd cc
bytes_same (x ∷ xs) (y ∷ ys) h =
    let p = and_parts (nat_eq x y) (bytes_eq xs ys) h in
    ap (λ (z : ℕ). z ∷ xs) (same_number x y p.0) ∙ ap (λ (zs : List ℕ). y ∷ zs) (bytes_same xs ys p.1)

open_ends : (k : TokenKind) (w : List ℕ) (s : Span) (x : Terminal) (r : Lexemes) → is_open k w ≡ true → fits_before (terminal_of k w) (lex s x ∷ r) ≡ true → is_dot x ≡ true → ⊥
open_ends Integer w s x r o fit e = contrary (dot_first (lex s x ∷ r)) fit e
open_ends Operator w s x r o fit e =
    contrary (dot_first (lex s x ∷ r)) (subst (λ (v : List ℕ). fits_before (terminal_of Operator v) (lex s x ∷ r) ≡ true) (bytes_same w (codes ".") o) fit) e
open_ends Ident w s x r o fit e = cc
open_ends Keyword w s x r o fit e = cc
open_ends Float w s x r o fit e = cc
open_ends Imaginary w s x r o fit e = cc
open_ends Rune w s x r o fit e = cc
open_ends Str w s x r o fit e = cc
open_ends Inserted w s x r o fit e = cc

-- ---- semicolons that a newline gives

abbrev own_spelling : TokenKind → List ℕ → Bool
own_spelling Inserted w = not (begins_with_dot w)
own_spelling _ w = true

abbrev own_spellings : List Token → Bool
own_spellings [] = true
own_spellings (t ∷ ts) = own_spelling t.kind t.spelling && own_spellings ts

inserted_own : (due : Option ℕ) (more : List Token) → own_spellings more ≡ true → own_spellings (inserted due ++ more) ≡ true
inserted_own None more h = h
inserted_own (Some at) more h = h

token_own : (k : TokenKind) (w v : List ℕ) → IsPiece (token k) w → own_spelling k v ≡ true
token_own Ident w v p = refl
token_own Keyword w v p = refl
token_own Operator w v p = refl
token_own Integer w v p = refl
token_own Float w v p = refl
token_own Imaginary w v p = refl
token_own Rune w v p = refl
token_own Str w v p = refl
token_own Inserted w v p = absurd p

kind_own : (k : PieceKind) (w : List ℕ) (at : ℕ) (due : Option ℕ) (more : List Token) → IsPiece k w → own_spellings more ≡ true → own_spellings (tokens_at at due k w ++ more) ≡ true
kind_own blanks w at due more piece others = by_line (is_listed w 10)
  where
    by_line : (b : Bool) → own_spellings ((if b then inserted due else []) ++ more) ≡ true
    by_line true = inserted_own due more others
    by_line false = others
kind_own remark w at due more piece others = by_line (is_listed w 10)
  where
    by_line : (b : Bool) → own_spellings ((if b then inserted due else []) ++ more) ≡ true
    by_line true = inserted_own due more others
    by_line false = others
kind_own (token k) w at due more piece others = and_true (own_spelling k (encode_utf8_all w)) (own_spellings more) (token_own k w (encode_utf8_all w) piece) others

pieces_own : (ps : List Piece) (text : List ℕ) (at : ℕ) (due : Option ℕ) → CutsTo text ps [] → own_spellings (tokens_from at due ps) ≡ true
unfolding tokens_from
pieces_own [] text at None cut = refl
pieces_own [] text at (Some place) cut = refl
pieces_own (p ∷ ps) text at due cut =
    kind_own p.kind p.word at due (tokens_from (at + size_of p.word) (due_after at due p.kind p.word) ps) cut.1.spelled (pieces_own ps cut.0 (at + size_of p.word) (due_after at due p.kind p.word) cut.2)

own_is : (k : TokenKind) (w : List ℕ) → own_spelling k w ≡ true → k ≡ Inserted → begins_with_dot w ≡ false
own_is k w h e = by_dot (begins_with_dot w) (subst (λ (j : TokenKind). own_spelling j w ≡ true) e h)
  where
    by_dot : (b : Bool) → not b ≡ true → b ≡ false
    by_dot true q = absurd cc
    by_dot false q = refl

-- ---- files

not_so : (b : Bool) → (b ≡ true → ⊥) → not b ≡ true
not_so true f = absurd (f refl)
not_so false f = refl

fit_apart : (tokens : List Token) → AreReal (lexemes tokens) → own_spellings tokens ≡ true → dots_fit (lexemes tokens) ≡ true → dots_apart tokens ≡ true
fit_apart [] real own fit = refl
fit_apart (t ∷ []) real own fit = refl
fit_apart (t ∷ u ∷ ts) real own fit =
    let p = and_parts (fits_before (terminal_of t.kind t.spelling) (lexemes (u ∷ ts))) (dots_fit (lexemes (u ∷ ts))) fit in
    let q = and_parts (fits_before (terminal_of u.kind u.spelling) (lexemes ts)) (dots_fit (lexemes ts)) p.1 in
    let o = and_parts (own_spelling t.kind t.spelling) (own_spellings (u ∷ ts)) own in
    let i = and_parts (own_spelling u.kind u.spelling) (own_spellings ts) o.1 in
    and_true (not (runs_on t u)) (dots_apart (u ∷ ts))
    (not_so (runs_on t u) (λ e.
    let x = and_parts (nat_eq t.span.end u.span.start) (is_open t.kind t.spelling && begins_with_dot u.spelling) e in
    let y = and_parts (is_open t.kind t.spelling) (begins_with_dot u.spelling) x.1 in
    open_ends t.kind t.spelling u.span (terminal_of u.kind u.spelling) (lexemes ts) y.0 p.0 (second_dot u.kind u.spelling (lexemes ts) real.1.0 (own_is u.kind u.spelling i.0) q.0 y.1)))
    (fit_apart (u ∷ ts) real.1 o.1 p.1)

pub tokens_apart : (text : List ℕ) (tokens : List Token) (comments : List Comment) (f : File Span) → TokensOf text tokens comments → SpellsFile tokens f → UndottedFile (bare_file f) → dots_apart tokens ≡ true
tokens_apart text tokens comments f t d u =
    fit_apart tokens (tokens_real text tokens comments t) (subst (λ (ts : List Token). own_spellings ts ≡ true) (sym t.tokens_are) (pieces_own t.pieces (after_mark t.characters) (mark_size t.characters) None t.cut))
    (file_dots nowhere (aside.file_bare span_to d) u refl)
