-- What stands behind a node begins with no letter and no digit.
use Rattle.std.proofs.Common.{◌≡◌, inl, inr, ℕ, Bool, true, false, not, ◌&&◌, ◌||◌, ◌==◌, List, [], ◌∷◌, ◌++◌, Option, refl, ap, ◌∙◌, arith, bytes_eq}
use Rattle.std.specs.Prelude.{encode_utf8_all, if◌then◌else◌}
use Rattle.std.proofs.lemmas.Bool.Decides.{nat_tests}
use Rattle.ucd_category.specs.GeneralCategory.{general_category}
use Rattle.ucd_category.specs.GeneralCategoryRows.{general_category_rows}
use Rattle.ucd_table.specs.Rows.{value_in}
use Rattle.go_tree.specs.declared.tokens.TokenKind.{TokenKind}
use Rattle.go_tree.specs.declared.tokens.TokenKind.TheVariants.{Ident, Keyword, Operator, Integer, Float, Imaginary, Rune, Str, Inserted}
use Rattle.go_tree.specs.GoWords.Tokens.Characters.{is_letter, is_digit, is_word, is_blank, each}
use Rattle.go_tree.specs.GoWords.Tokens.Forms.{HasForm}
use Rattle.go_tree.specs.GoWords.Tokens.Literals.{comment}
use Rattle.go_tree.specs.GoWords.Tokens.{tokens_from}
use Rattle.go_tree.specs.GoWords.Tokens.Pieces.{PieceKind, blanks, remark, token, Piece, operator_spellings, operator, no_word_first, is_blanks, IsPiece}
use Rattle.go_scan.proofs.Derivatives.{and_parts}
use Rattle.go_scan.proofs.PieceKinds.{never_empty}
use Rattle.go_tree.specs.GoWords.Terminals.{Terminal, terminal_of, lexemes, found_in, keywords}
use Rattle.splice_laws.specs.Joints.{PartsTo}
use Rattle.splice_laws.proofs.Over.{is_piece}
use Rattle.splice_laws.specs.Ends.{stops, ends_node}
use Rattle.splice_laws.proofs.Ends.{View, view, first_is, each_word, operator_passes, or_cases}

no_word : (b : Bool) → b ≡ false → not b ≡ true
no_word true e = absurd cc
no_word false e = refl

same_number : (a b : ℕ) → a == b ≡ true → a ≡ b
same_number a b e = grind (arith, nat_tests, e)

-- ---- blanks and comments

space_is : is_word 32 ≡ false
unfolding is_letter is_digit general_category general_category_rows value_in
space_is = refl

tab_is : is_word 9 ≡ false
unfolding is_letter is_digit general_category general_category_rows value_in
tab_is = refl

return_is : is_word 13 ≡ false
unfolding is_letter is_digit general_category general_category_rows value_in
return_is = refl

newline_is : is_word 10 ≡ false
unfolding is_letter is_digit general_category general_category_rows value_in
newline_is = refl

pub blank_word : (c : ℕ) → is_blank c ≡ true → is_word c ≡ false
blank_word c h = or_cases ((c == 32 || c == 9) || c == 13) (c == 10) h (λ q. or_cases (c == 32 || c == 9) (c == 13) q (λ r. or_cases (c == 32) (c == 9) r (λ t. by_number c 32 t space_is) (λ t. by_number c 9 t tab_is)) (λ r. by_number c 13 r return_is)) (λ q. by_number c 10 q newline_is)
  where
    by_number : (c n : ℕ) → c == n ≡ true → is_word n ≡ false → is_word c ≡ false
    by_number c n q e = ap is_word (same_number c n q) ∙ e

pub comment_first : (w : List ℕ) → HasForm comment w → no_word_first w ≡ true
unfolding comment is_letter is_digit general_category general_category_rows value_in
comment_first w h = by_either (view h)
  where
    slash : (front back : List ℕ) → w ≡ front ++ back → front ≡ 47 ∷ [] → no_word_first w ≡ true
    slash front back e f = ap no_word_first e ∙ ap (λ (x : List ℕ). no_word_first (x ++ back)) f

    by_either : View comment w → no_word_first w ≡ true
    by_either (inl x) = let v = view x in slash v.0 v.1 v.2 (first_is 47 v.0 (view v.3))
    by_either (inr x) = let v = view x in slash v.0 v.1 v.2 (first_is 47 v.0 (view v.3))

-- ---- operators

signs_first : each_word no_word_first operator_spellings ≡ true
unfolding operator_spellings is_letter is_digit general_category general_category_rows value_in
signs_first = refl

operator_first : (w : List ℕ) → IsPiece (token Operator) w → no_word_first w ≡ true
unfolding operator
operator_first w piece = operator_passes no_word_first operator_spellings w signs_first piece

-- no keyword follows a node
abbrev rows_go_on : List (List ℕ × Terminal) → Bool
rows_go_on [] = true
rows_go_on (row ∷ rows) = not (stops row.1) && rows_go_on rows

keys_go_on : rows_go_on keywords ≡ true
keys_go_on = refl

found_goes_on : (rows : List (List ℕ × Terminal)) (w : List ℕ) → rows_go_on rows ≡ true → stops (found_in rows w) ≡ true → ⊥
found_goes_on [] w all h = cc
found_goes_on (row ∷ rows) w all h = by_row (bytes_eq row.0 w) h (λ q. found_goes_on rows w (and_parts (not (stops row.1)) (rows_go_on rows) all).1 q)
  where
    off : (b : Bool) → not b ≡ true → b ≡ true → ⊥
    off true a b = cc
    off false a b = cc

    by_row : (b : Bool) → stops (if b then row.1 else found_in rows w) ≡ true → (stops (found_in rows w) ≡ true → ⊥) → ⊥
    by_row true q later = off (stops row.1) (and_parts (not (stops row.1)) (rows_go_on rows) all).0 q
    by_row false q later = later q

token_first : (k : TokenKind) (w : List ℕ) → IsPiece (token k) w → stops (terminal_of k (encode_utf8_all w)) ≡ true → no_word_first w ≡ true
token_first Ident w p h = absurd cc h
token_first Keyword w p h = absurd (found_goes_on keywords (encode_utf8_all w) keys_go_on h)
token_first Operator w p h = operator_first w p
token_first Integer w p h = absurd cc h
token_first Float w p h = absurd cc h
token_first Imaginary w p h = absurd cc h
token_first Rune w p h = absurd cc h
token_first Str w p h = absurd cc h
token_first Inserted w p h = absurd p

-- ---- the text behind

front_first : (k : PieceKind) (w more : List ℕ) → IsPiece k w → no_word_first w ≡ true → no_word_first (w ++ more) ≡ true
front_first k [] more p h = absurd (never_empty k p)
front_first k (c ∷ cs) more p h = h

blanks_first : (w : List ℕ) → is_blanks w ≡ true → no_word_first w ≡ true
blanks_first [] h = refl
blanks_first (c ∷ cs) h = no_word (is_word c) (blank_word c (and_parts (is_blank c) (each is_blank cs) h).0)

pub behind_first : (ps : List Piece) (tail : List ℕ) (at : ℕ) (due : Option ℕ) → PartsTo tail ps [] → ends_node (lexemes (tokens_from at due ps)) ≡ true → no_word_first tail ≡ true
unfolding tokens_from
behind_first [] tail at due parts h = ap no_word_first parts
behind_first (p ∷ ps) tail at due parts h = ap no_word_first parts.1 ∙ by_kind p.kind p.word (is_piece p.kind p.word parts.0 parts.2) h
  where
    by_kind : (k : PieceKind) (w : List ℕ) → IsPiece k w → ends_node (lexemes (tokens_from at due (record { kind = k; word = w } ∷ ps))) ≡ true → no_word_first (w ++ parts.0) ≡ true
    by_kind blanks w x q = front_first blanks w parts.0 x (blanks_first w x)
    by_kind remark w x q = front_first remark w parts.0 x (comment_first w x)
    by_kind (token k) w x q = front_first (token k) w parts.0 x (token_first k w x q)
