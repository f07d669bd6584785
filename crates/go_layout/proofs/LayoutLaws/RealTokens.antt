-- The tokens of a text are real.
use Rattle.std.proofs.Common.{◌≡◌, ℕ, ◌+◌, Bool, true, false, ◌==◌, List, [], ◌∷◌, ◌++◌, Option, Some, None, refl, sym, subst}
use Rattle.std.specs.Prelude.{encode_utf8_all, bytes_eq, if◌then◌else◌}
use Rattle.std.specs.Str.{all_scalars}
use Rattle.std.proofs.lemmas.Str.{chars-encodes}
use Rattle.go_tree.specs.declared.tokens.Token.{Token}
use Rattle.go_tree.specs.declared.tokens.Comment.{Comment}
use Rattle.go_tree.specs.declared.tokens.TokenKind.{TokenKind}
use Rattle.go_tree.specs.declared.tokens.TokenKind.TheVariants.{Ident, Keyword, Operator, Integer, Float, Imaginary, Rune, Str, Inserted}
use Rattle.go_tree.specs.GoWords.Tokens.Characters.{is_listed, byte_order_mark}
use Rattle.go_tree.specs.GoWords.Tokens.{TokensOf, after_mark, mark_size, tokens_at, size_of, inserted, due_after, tokens_from}
use Rattle.go_tree.specs.GoWords.Tokens.Pieces.{PieceKind, blanks, remark, token, Piece, IsPiece, CutsTo}
use Rattle.go_scan.proofs.Derivatives.{and_parts, and_true}
use Rattle.go_tree.specs.GoWords.Terminals.{Terminal, lex, terminal_of, lexemes, found_in, keywords, operators}
use Rattle.go_read.specs.SpellsTypes.{Lexemes}
use Rattle.go_layout.specs.LayoutLaws.Formed.{IsToken}
use Rattle.go_layout.specs.LayoutLaws.Real.{IsReal, AreReal}

-- ---- terminals of tables

abbrev RowsReal : List (List ℕ × Terminal) → Type 0
RowsReal [] = Unit {0}
RowsReal (row ∷ rows) = IsReal row.1 × RowsReal rows

found_real : (rows : List (List ℕ × Terminal)) (w : List ℕ) → RowsReal rows → IsReal (found_in rows w)
found_real [] w real = tt
found_real (row ∷ rows) w real = by_row (bytes_eq row.0 w) (found_real rows w real.1)
  where
    by_row : (b : Bool) → IsReal (found_in rows w) → IsReal (if b then row.1 else found_in rows w)
    by_row true others = real.0
    by_row false others = others

keywords_real : RowsReal keywords
keywords_real = (tt, (tt, (tt, (tt, (tt, (tt, (tt, (tt, (tt, (tt, (tt, (tt, (tt, (tt, (tt, (tt, (tt, (tt, (tt, (tt, (tt, (tt, (tt, (tt, (tt, tt)))))))))))))))))))))))))

operators_real : RowsReal operators
operators_real = (tt, (tt, (tt, (tt, (tt, (tt, (tt, (tt, (tt, (tt, (tt, (refl, (refl, (refl, (refl, (refl, (refl, (refl, (refl, (refl, (refl, (refl, (tt, (tt, (tt, (tt, (tt, (tt, (tt, (tt, (refl, (tt, (tt, (tt, (tt, (tt, (tt, (tt, (tt, (tt, (tt, (tt, (tt, (tt, (tt, (tt, (tt, (tt, tt))))))))))))))))))))))))))))))))))))))))))))))))

-- ---- tokens

is_token : (k : TokenKind) (w : List ℕ) → all_scalars w ≡ true → IsPiece (token k) w → IsToken k (encode_utf8_all w)
is_token k w h piece = ((w, (h, refl)), subst (λ (x : List ℕ). IsPiece (token k) x) (sym (chars-encodes w h)) piece)

piece_real : (k : TokenKind) (w : List ℕ) → all_scalars w ≡ true → IsPiece (token k) w → IsReal (terminal_of k (encode_utf8_all w))
piece_real Ident w h piece = is_token Ident w h piece
piece_real Keyword w h piece = found_real keywords (encode_utf8_all w) keywords_real
piece_real Operator w h piece = found_real operators (encode_utf8_all w) operators_real
piece_real Integer w h piece = is_token Integer w h piece
piece_real Float w h piece = tt
piece_real Imaginary w h piece = tt
piece_real Rune w h piece = is_token Rune w h piece
piece_real Str w h piece = is_token Str w h piece
piece_real Inserted w h piece = tt

inserted_real : (due : Option ℕ) (more : List Token) → AreReal (lexemes more) → AreReal (lexemes (inserted due ++ more))
inserted_real None more h = h
inserted_real (Some at) more h = (tt, h)

scalars_apart : (xs ys : List ℕ) → all_scalars (xs ++ ys) ≡ true → (all_scalars xs ≡ true) × (all_scalars ys ≡ true)
scalars_apart [] ys h = (refl, h)
scalars_apart (c ∷ xs) ys h =
    let p = and_parts (lib.Utf8.scalar c) (all_scalars (xs ++ ys)) h in
    let q = scalars_apart xs ys p.1 in (and_true (lib.Utf8.scalar c) (all_scalars xs) p.0 q.0, q.1)

kind_real : (k : PieceKind) (w : List ℕ) (at : ℕ) (due : Option ℕ) (more : List Token) → all_scalars w ≡ true → IsPiece k w → AreReal (lexemes more) → AreReal (lexemes (tokens_at at due k w ++ more))
kind_real blanks w at due more h piece others = by_line (is_listed w 10)
  where
    by_line : (b : Bool) → AreReal (lexemes ((if b then inserted due else []) ++ more))
    by_line true = inserted_real due more others
    by_line false = others
kind_real remark w at due more h piece others = by_line (is_listed w 10)
  where
    by_line : (b : Bool) → AreReal (lexemes ((if b then inserted due else []) ++ more))
    by_line true = inserted_real due more others
    by_line false = others
kind_real (token k) w at due more h piece others = (piece_real k w h piece, others)

pieces_real : (ps : List Piece) (text : List ℕ) (at : ℕ) (due : Option ℕ) → CutsTo text ps [] → all_scalars text ≡ true → AreReal (lexemes (tokens_from at due ps))
unfolding tokens_from
pieces_real [] text at None cut h = tt
pieces_real [] text at (Some place) cut h = (tt, tt)
pieces_real (p ∷ ps) text at due cut h =
    let parts = scalars_apart p.word cut.0 (subst (λ (x : List ℕ). all_scalars x ≡ true) cut.1.parts h) in
    kind_real p.kind p.word at due (tokens_from (at + size_of p.word) (due_after at due p.kind p.word) ps) parts.0 cut.1.spelled
    (pieces_real ps cut.0 (at + size_of p.word) (due_after at due p.kind p.word) cut.2 parts.1)

pub unmarked_scalars : (cs : List ℕ) → all_scalars cs ≡ true → all_scalars (after_mark cs) ≡ true
unmarked_scalars [] h = h
unmarked_scalars (c ∷ cs) h = by_mark (c == byte_order_mark)
  where
    by_mark : (b : Bool) → all_scalars (if b then cs else c ∷ cs) ≡ true
    by_mark true = (and_parts (lib.Utf8.scalar c) (all_scalars cs) h).1
    by_mark false = h

pub tokens_real : (text : List ℕ) (tokens : List Token) (comments : List Comment) → TokensOf text tokens comments → AreReal (lexemes tokens)
tokens_real text tokens comments of_text =
    subst (λ (ts : List Token). AreReal (lexemes ts)) (sym of_text.tokens_are)
    (pieces_real of_text.pieces (after_mark of_text.characters) (mark_size of_text.characters) None of_text.cut (unmarked_scalars of_text.characters of_text.scalars))

pub rest_real : (front rest : Lexemes) → AreReal (front ++ rest) → AreReal rest
rest_real [] rest h = h
rest_real (lex s x ∷ front) rest h = rest_real front rest h.1
