-- Where a span of whole tokens stands in a text.
use Rattle.std.specs.Prelude.{◌≡◌, ℕ, cond, List, [], ◌∷◌, ◌++◌, Some, None, encode_utf8_all}
use Rattle.go_tree.specs.declared.spans.Span.{Span}
use Rattle.go_tree.specs.declared.tokens.Token.{Token}
use Rattle.go_tree.specs.declared.tokens.Comment.{Comment}
use Rattle.go_tree.specs.declared.tokens.TokenKind.{TokenKind}
use Rattle.go_tree.specs.GoWords.Tokens.{size_of, ends_line, tokens_from, comments_from}
use Rattle.go_tree.specs.GoWords.Tokens.Pieces.{token, Piece, CutsTo}
use Rattle.splice_laws.specs.Joints.{InnerEnd, Parted, begin_of, span_within, given, due_behind}

-- The text in parts: `front`, `node` and `back` are the tokens before a span, within it and behind it, and `last` is
-- the last token within it. The parts before the span end where they do whatever stands in the span.
pub record Spot (text : List ℕ) (tokens : List Token) (comments : List Comment) (front node back : List Token)
    (last : Token) (span : Span) : Type 0 where
  pub mark : List ℕ
  pub before : List Piece
  pub inside : List Piece
  pub behind : List Piece
  pub tail : List ℕ
  pub word : List ℕ
  pub parted : Parted text mark before inside behind tail
  pub cut_behind : CutsTo tail behind []
  pub inner : InnerEnd before
  pub span_is : span ≡ span_within mark before inside
  pub front_is : front ≡ given (size_of mark) None before
  pub node_is : node ≡ given (begin_of mark before) (due_behind (size_of mark) None before) inside
  pub word_is : last.spelling ≡ encode_utf8_all word
  pub first : (k : TokenKind) × (w : List ℕ) × (qs : List Piece) × (inside ≡ record { kind = token k; word = w } ∷ qs)
  pub due_is : due_behind (begin_of mark before) (due_behind (size_of mark) None before) inside
      ≡ cond (ends_line last.kind word) (Some span.end) None
  pub back_is : back ≡ tokens_from span.end
      (due_behind (begin_of mark before) (due_behind (size_of mark) None before) inside) behind
  pub comments_are : comments ≡ comments_from (size_of mark) before
      ++ (comments_from (begin_of mark before) inside ++ comments_from span.end behind)
