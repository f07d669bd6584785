-- A text has at most two tokens for each byte.
use Rattle.std.proofs.Common.{◌≡◌, ap, ℕ, ◌+◌, ◌≤◌, ◌==◌, Bool, true, false, List, [], ◌∷◌, ◌++◌, length, Option, Some, None, if◌then◌else◌, arith, length-append, encode_utf8_all}
use Rattle.std.proofs.lemmas.Str.{encodes-append}
use Rattle.std.proofs.Math.Utf8.{encode}
use Rattle.go_tree.specs.declared.tokens.Token.{Token}
use Rattle.go_tree.specs.declared.tokens.Comment.{Comment}
use Rattle.go_tree.specs.GoWords.Tokens.{TokensOf, ends_line, inserted, tokens_at, tokens_from, due_after, size_of, pieces_size, after_mark, mark_size}
use Rattle.go_tree.specs.GoWords.Tokens.Characters.{byte_order_mark, is_listed}
use Rattle.go_tree.specs.GoWords.Tokens.Pieces.{PieceKind, blanks, remark, token, Piece, IsPiece, CutsTo}
use Rattle.splice_laws.proofs.Rises.{piece_size}

one_inserted : (due : Option ℕ) → length (inserted due) ≤ 1
one_inserted None = omega arith
one_inserted (Some at) = omega arith

behind_newline : (b : Bool) (due : Option ℕ) (ts : List Token) (m s : ℕ) → length ts ≤ m + m + length (inserted (if b then None else due)) → length ((if b then inserted due else []) ++ ts) ≤ (s + m) + (s + m) + length (inserted due)
behind_newline true due ts m s h = let a = length-append (inserted due) ts in omega (arith, a, h)
behind_newline false due ts m s h = omega (arith, h)

one_few : (at : ℕ) (due : Option ℕ) (k : PieceKind) (w : List ℕ) (ts : List Token) (m : ℕ) → IsPiece k w → length ts ≤ m + m + length (inserted (due_after at due k w))
    → length (tokens_at at due k w ++ ts) ≤ (size_of w + m) + (size_of w + m) + length (inserted due)
one_few at due (token k) w ts m p h =
    let s = piece_size (token k) w p in
    let i = one_inserted (if ends_line k w then Some (at + size_of w) else None) in
    omega (arith, s, i, h)
one_few at due blanks w ts m p h = behind_newline (is_listed w 10) due ts m (size_of w) h
one_few at due remark w ts m p h = behind_newline (is_listed w 10) due ts m (size_of w) h

pieces_few : (at : ℕ) (due : Option ℕ) (text rest : List ℕ) (ps : List Piece) → CutsTo text ps rest → length (tokens_from at due ps) ≤ pieces_size ps + pieces_size ps + length (inserted due)
unfolding tokens_from
pieces_few at due text rest [] c = omega arith
pieces_few at due text rest (p ∷ ps) c =
    one_few at due p.kind p.word (tokens_from (at + size_of p.word) (due_after at due p.kind p.word) ps) (pieces_size ps) c.1.spelled
    (pieces_few (at + size_of p.word) (due_after at due p.kind p.word) c.0 rest ps c.2)

pieces_sized : (cs : List ℕ) (ps : List Piece) → CutsTo cs ps [] → size_of cs ≡ pieces_size ps
pieces_sized cs [] cut = ap size_of cut
pieces_sized cs (p ∷ ps) cut =
    let parts = ap length (ap encode_utf8_all cut.1.parts) in
    let both = ap length (encodes-append p.word cut.0) in
    let sizes = length-append (encode_utf8_all p.word) (encode_utf8_all cut.0) in
    let rest = pieces_sized cut.0 ps cut.2 in
    omega (arith, parts, both, sizes, rest)

mark_fewer : (cs : List ℕ) → size_of (after_mark cs) ≤ size_of cs
mark_fewer [] = omega arith
mark_fewer (c ∷ cs) = by (c == byte_order_mark)
  where
    by : (b : Bool) → size_of (if b then cs else c ∷ cs) ≤ size_of (c ∷ cs)
    by true = let a = length-append (encode c) (encode_utf8_all cs) in omega (arith, a)
    by false = omega arith

pub tokens_few : (text : List ℕ) (tokens : List Token) (comments : List Comment) → TokensOf text tokens comments → length tokens ≤ length text + length text
tokens_few text tokens comments t =
    let few = pieces_few (mark_size t.characters) None (after_mark t.characters) [] t.pieces t.cut in
    let sized = pieces_sized (after_mark t.characters) t.pieces t.cut in
    let marked = mark_fewer t.characters in
    let encoded : size_of t.characters ≡ length text = ap length t.encoded in
    let are : length tokens ≡ length (tokens_from (mark_size t.characters) None t.pieces) = ap length t.tokens_are in
    omega (arith, few, sized, marked, encoded, are)
