-- The tokens of a text that stand for constants have the forms of literals.
use Rattle.std.proofs.Common.{◌≡◌, ℕ, ◌+◌, Bool, true, false, cond, ◌&&◌, ◌==◌, inl, inr, List, [], ◌∷◌, ◌++◌, Option, Some, None, refl, sym, subst, All}
use lib.Utf8.{scalar}
use Rattle.std.specs.Str.{all_scalars}
use Rattle.std.proofs.lemmas.List.Elements.{All-nil, All-append, All-cons, All-weaker}
use Rattle.go_tree.specs.declared.tokens.Token.{Token}
use Rattle.go_tree.specs.declared.tokens.Comment.{Comment}
use Rattle.go_tree.specs.declared.tokens.TokenKind.TheVariants.{Ident, Keyword, Operator, Integer, Float, Imaginary, Rune, Str, Inserted}
use Rattle.go_tree.specs.GoWords.Tokens.{TokensOf, tokens_at, tokens_from, due_after, inserted, after_mark, mark_size, size_of}
use Rattle.go_tree.specs.GoWords.Tokens.Characters.{byte_order_mark, is_listed}
use Rattle.go_tree.specs.GoWords.Tokens.Pieces.{PieceKind, blanks, remark, token, Piece, IsPiece, CutsTo}
use Rattle.go_tree.specs.GoLiterals.Strings.{IsString}
use Rattle.go_tree.specs.GoLiterals.Literals.{IsLiteral, is_literal, TokensAreLiterals, TokensAreStrings}

-- the token has the form of its literal
abbrev Formed : Token → Type 0
Formed t = (is_literal t.kind ≡ true → IsLiteral t.spelling) × (t.kind ≡ Str → IsString t.spelling)

and_parts : (a b : Bool) → a && b ≡ true → (a ≡ true) × (b ≡ true)
and_parts true true h = (refl, refl)
and_parts true false h = absurd cc
and_parts false b h = absurd cc

and_true : (a b : Bool) → a ≡ true → b ≡ true → a && b ≡ true
and_true true b p q = q
and_true false b p q = absurd cc

scalars_parts : (u v : List ℕ) → all_scalars (u ++ v) ≡ true → (all_scalars u ≡ true) × (all_scalars v ≡ true)
scalars_parts [] v h = (refl, h)
scalars_parts (c ∷ u) v h =
    let p = and_parts (scalar c) (all_scalars (u ++ v)) h in let q = scalars_parts u v p.1 in
    (and_true (scalar c) (all_scalars u) p.0 q.0, q.1)

scalars_after_mark : (cs : List ℕ) → all_scalars cs ≡ true → all_scalars (after_mark cs) ≡ true
scalars_after_mark [] h = h
scalars_after_mark (c ∷ cs) h = by_mark (c == byte_order_mark) (scalars_parts (c ∷ []) cs h).1
  where
    by_mark : (b : Bool) → all_scalars cs ≡ true → all_scalars (cond b cs (c ∷ cs)) ≡ true
    by_mark true r = r
    by_mark false r = h

inserted_formed : (due : Option ℕ) → All Formed (inserted due)
inserted_formed None = All-nil Formed
inserted_formed (Some at) = All-cons Formed _ [] ((λ e. absurd cc), (λ e. absurd cc)) (All-nil Formed)

gap_formed : (due : Option ℕ) (b : Bool) → All Formed (cond b (inserted due) [])
gap_formed due true = inserted_formed due
gap_formed due false = All-nil Formed

piece_formed : (at : ℕ) (due : Option ℕ) (kind : PieceKind) (word : List ℕ) → all_scalars word ≡ true → IsPiece kind word → All Formed (tokens_at at due kind word)
piece_formed at due blanks word s h = gap_formed due (is_listed word 10)
piece_formed at due remark word s h = gap_formed due (is_listed word 10)
piece_formed at due (token Integer) word s h =
    All-cons Formed _ [] ((λ e. record { word = word; scalars = s; encoded = refl; form = inl h }), (λ e. absurd cc)) (All-nil Formed)
piece_formed at due (token Rune) word s h =
    All-cons Formed _ [] ((λ e. record { word = word; scalars = s; encoded = refl; form = inr (inl h) }), (λ e. absurd cc)) (All-nil Formed)
piece_formed at due (token Str) word s h =
    All-cons Formed _ [] ((λ e. record { word = word; scalars = s; encoded = refl; form = inr (inr h) }), (λ e. (word, h, refl))) (All-nil Formed)
piece_formed at due (token Ident) word s h = All-cons Formed _ [] ((λ e. absurd cc), (λ e. absurd cc)) (All-nil Formed)
piece_formed at due (token Keyword) word s h = All-cons Formed _ [] ((λ e. absurd cc), (λ e. absurd cc)) (All-nil Formed)
piece_formed at due (token Operator) word s h = All-cons Formed _ [] ((λ e. absurd cc), (λ e. absurd cc)) (All-nil Formed)
piece_formed at due (token Float) word s h = All-cons Formed _ [] ((λ e. absurd cc), (λ e. absurd cc)) (All-nil Formed)
piece_formed at due (token Imaginary) word s h = All-cons Formed _ [] ((λ e. absurd cc), (λ e. absurd cc)) (All-nil Formed)
piece_formed at due (token Inserted) word s h = absurd h

pieces_formed : (at : ℕ) (due : Option ℕ) (ps : List Piece) (cs : List ℕ) → all_scalars cs ≡ true → CutsTo cs ps [] → All Formed (tokens_from at due ps)
unfolding tokens_from
pieces_formed at due [] cs s cut = inserted_formed due
pieces_formed at due (p ∷ ps) cs s cut =
    let parts = scalars_parts p.word cut.0 (subst (λ (x : List ℕ). all_scalars x ≡ true) cut.1.parts s) in
    All-append Formed (tokens_at at due p.kind p.word) (tokens_from (at + size_of p.word) (due_after at due p.kind p.word) ps)
    (piece_formed at due p.kind p.word parts.0 cut.1.spelled)
    (pieces_formed (at + size_of p.word) (due_after at due p.kind p.word) ps cut.0 parts.1 cut.2)

tokens_formed : (text : List ℕ) (tokens : List Token) (comments : List Comment) → TokensOf text tokens comments → All Formed tokens
tokens_formed text tokens comments of_text =
    subst (All Formed) (sym of_text.tokens_are)
    (pieces_formed (mark_size of_text.characters) None of_text.pieces (after_mark of_text.characters) (scalars_after_mark of_text.characters of_text.scalars) of_text.cut)

pub tokens_are_literals : TokensAreLiterals
tokens_are_literals text tokens comments of_text =
    All-weaker Formed (λ (t : Token). is_literal t.kind ≡ true → IsLiteral t.spelling) (λ t h. h.0) tokens (tokens_formed text tokens comments of_text)

pub tokens_are_strings : TokensAreStrings
tokens_are_strings text tokens comments of_text =
    All-weaker Formed (λ (t : Token). t.kind ≡ Str → IsString t.spelling) (λ t h. h.1) tokens (tokens_formed text tokens comments of_text)
