-- The word `...` (Go specification, Operators and punctuation; Function types; Passing arguments to ... parameters).
use Rattle.std.specs.Prelude.{Bool, true, false, ◌&&◌, bytes_eq, codes}
use Rattle.go_tree.specs.declared.tokens.Token.{Token}
use Rattle.go_tree.specs.declared.tokens.TokenKind.{TokenKind}
use Rattle.go_tree.specs.declared.tokens.TokenKind.TheVariants.{Operator}

-- an operator or a punctuation mark
abbrev pub is_operator : TokenKind → Bool
is_operator Operator = true
is_operator k = false

-- the token is `...`
abbrev pub is_dots : Token → Bool
is_dots t = is_operator t.kind && bytes_eq t.spelling (codes "...")
