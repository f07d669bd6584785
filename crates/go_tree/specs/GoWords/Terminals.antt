-- The words of the language: each keyword and each operator with its spelling and its terminal, and the terminals of
-- all tokens (Go specification, Tokens, Identifiers, Keywords, Operators and punctuation).
use Rattle.std.specs.Prelude.{ℕ, Bool, true, false, List, [], ◌∷◌, map, Option, Some, None, if◌then◌else◌}
use Rattle.std.specs.Prelude.{bytes_eq, codes}
use Rattle.go_tree.specs.declared.spans.Span.{Span}
use Rattle.go_tree.specs.declared.operators.BinOp.{BinOp}
use Rattle.go_tree.specs.declared.operators.BinOp.TheVariants.{Mul, Div, Rem, Shl, Shr, And, AndNot, Add, Sub, Or, Xor}
use Rattle.go_tree.specs.declared.operators.BinOp.TheVariants.{Eq, Ne, Lt, Le, Gt, Ge, LogAnd, LogOr}
use Rattle.go_tree.specs.declared.operators.UnOp.{UnOp}
use Rattle.go_tree.specs.declared.operators.UnOp.TheVariants.{Plus, Minus, Not, Flip, Address}
use Rattle.go_tree.specs.declared.tokens.Token.{Token}
use Rattle.go_tree.specs.declared.tokens.TokenKind.{TokenKind}
use Rattle.go_tree.specs.declared.tokens.TokenKind.TheVariants.{Ident, Keyword, Operator, Integer, Float, Imaginary}
use Rattle.go_tree.specs.declared.tokens.TokenKind.TheVariants.{Rune, Str, Inserted}
use Rattle.go_tree.specs.GoWords.Operators.{binary_spelling, unary_spelling, assign_spelling}

-- A terminal has the name of its token. `binary_op` is an operator between two operands, some of which are unary too,
-- `not_` is `!`, `assign` is `=` or an operator with `=`, `define` is `:=`, and `foreign` is every token that no
-- production holds.
pub data Terminal : Type 0 where
  ident : List ℕ → Terminal
  int_lit : List ℕ → Terminal
  rune_lit : List ℕ → Terminal
  str_lit : List ℕ → Terminal
  binary_op : BinOp → Terminal
  not_ : Terminal
  assign : Option BinOp → Terminal
  define : Terminal
  increment : Terminal
  decrement : Terminal
  comma : Terminal
  semicolon : Terminal
  colon : Terminal
  dot : Terminal
  ellipsis : Terminal
  paren : Terminal
  end_paren : Terminal
  bracket : Terminal
  end_bracket : Terminal
  brace : Terminal
  end_brace : Terminal
  key_break : Terminal
  key_case : Terminal
  key_const : Terminal
  key_continue : Terminal
  key_default : Terminal
  key_defer : Terminal
  key_else : Terminal
  key_for : Terminal
  key_func : Terminal
  key_if : Terminal
  key_import : Terminal
  key_map : Terminal
  key_package : Terminal
  key_range : Terminal
  key_return : Terminal
  key_struct : Terminal
  key_switch : Terminal
  key_type : Terminal
  key_var : Terminal
  foreign : Terminal

-- a terminal where it stands
pub data Lexeme : Type 0 where
  lex : Span → Terminal → Lexeme

-- ---- the words

-- the one keyword of no production after which a newline gives a semicolon
abbrev pub fallthrough : List ℕ
fallthrough = codes "fallthrough"

-- Go specification, Keywords
abbrev pub keywords : List (List ℕ × Terminal)
keywords =
    (codes "break", key_break) ∷ (codes "case", key_case) ∷ (codes "chan", foreign) ∷ (codes "const", key_const)
    ∷ (codes "continue", key_continue) ∷ (codes "default", key_default) ∷ (codes "defer", key_defer)
    ∷ (codes "else", key_else) ∷ (fallthrough, foreign) ∷ (codes "for", key_for) ∷ (codes "func", key_func)
    ∷ (codes "go", foreign) ∷ (codes "goto", foreign) ∷ (codes "if", key_if) ∷ (codes "import", key_import)
    ∷ (codes "interface", foreign) ∷ (codes "map", key_map) ∷ (codes "package", key_package)
    ∷ (codes "range", key_range) ∷ (codes "return", key_return) ∷ (codes "select", foreign)
    ∷ (codes "struct", key_struct) ∷ (codes "switch", key_switch) ∷ (codes "type", key_type)
    ∷ (codes "var", key_var) ∷ []

-- a binary operator with its spelling
abbrev pub binary_row : BinOp → List ℕ × Terminal
binary_row op = (binary_spelling op, binary_op op)

-- an assignment operator with its spelling
abbrev pub assign_row : Option BinOp → List ℕ × Terminal
assign_row op = (assign_spelling op, assign op)

-- Go specification, Operators and punctuation
abbrev pub operators : List (List ℕ × Terminal)
operators =
    binary_row Add ∷ binary_row Sub ∷ binary_row Mul ∷ binary_row Div ∷ binary_row Rem ∷ binary_row And
    ∷ binary_row Or ∷ binary_row Xor ∷ binary_row Shl ∷ binary_row Shr ∷ binary_row AndNot
    ∷ assign_row (Some Add) ∷ assign_row (Some Sub) ∷ assign_row (Some Mul) ∷ assign_row (Some Div)
    ∷ assign_row (Some Rem) ∷ assign_row (Some And) ∷ assign_row (Some Or) ∷ assign_row (Some Xor)
    ∷ assign_row (Some Shl) ∷ assign_row (Some Shr) ∷ assign_row (Some AndNot) ∷ binary_row LogAnd
    ∷ binary_row LogOr ∷ (codes "<-", foreign) ∷ (codes "++", increment) ∷ (codes "--", decrement)
    ∷ binary_row Eq ∷ binary_row Lt ∷ binary_row Gt ∷ assign_row None ∷ (unary_spelling Not, not_)
    ∷ (codes "~", foreign) ∷ binary_row Ne ∷ binary_row Le ∷ binary_row Ge ∷ (codes ":=", define)
    ∷ (codes "...", ellipsis) ∷ (codes "(", paren) ∷ (codes "[", bracket) ∷ (codes "{", brace)
    ∷ (codes ",", comma) ∷ (codes ".", dot) ∷ (codes ")", end_paren) ∷ (codes "]", end_bracket)
    ∷ (codes "}", end_brace) ∷ (codes ";", semicolon) ∷ (codes ":", colon) ∷ []

-- how the words of a table are spelled
abbrev pub spellings : List (List ℕ × Terminal) → List (List ℕ)
spellings table = map (λ row. row.0) table

-- the terminal that a table has for a spelling
abbrev pub found_in : List (List ℕ × Terminal) → List ℕ → Terminal
found_in [] spelling = foreign
found_in (row ∷ rows) spelling = if bytes_eq row.0 spelling then row.1 else found_in rows spelling

-- ---- the terminals of tokens

-- the terminal of a token of this kind and spelling
abbrev pub terminal_of : TokenKind → List ℕ → Terminal
terminal_of Ident spelling = ident spelling
terminal_of Keyword spelling = found_in keywords spelling
terminal_of Operator spelling = found_in operators spelling
terminal_of Integer spelling = int_lit spelling
terminal_of Float spelling = foreign
terminal_of Imaginary spelling = foreign
terminal_of Rune spelling = rune_lit spelling
terminal_of Str spelling = str_lit spelling
terminal_of Inserted spelling = semicolon

-- a token's terminal where it stands
abbrev pub lexeme_of : Token → Lexeme
lexeme_of t = lex t.span (terminal_of t.kind t.spelling)

-- the terminals of tokens where they stand
abbrev pub lexemes : List Token → List Lexeme
lexemes tokens = map lexeme_of tokens

-- whether no production holds the token
abbrev pub is_foreign : Terminal → Bool
is_foreign foreign = true
is_foreign _ = false

-- whether a newline after such a token of a production gives a semicolon (Go specification, Semicolons)
abbrev pub ends_statement : Terminal → Bool
ends_statement (ident _) = true
ends_statement (int_lit _) = true
ends_statement (rune_lit _) = true
ends_statement (str_lit _) = true
ends_statement increment = true
ends_statement decrement = true
ends_statement end_paren = true
ends_statement end_bracket = true
ends_statement end_brace = true
ends_statement key_break = true
ends_statement key_continue = true
ends_statement key_return = true
ends_statement _ = false

-- ---- operators

-- how tightly a binary operator binds (Go specification, Operator precedence)
abbrev pub level_of : BinOp → ℕ
level_of Mul = 5
level_of Div = 5
level_of Rem = 5
level_of Shl = 5
level_of Shr = 5
level_of And = 5
level_of AndNot = 5
level_of Add = 4
level_of Sub = 4
level_of Or = 4
level_of Xor = 4
level_of Eq = 3
level_of Ne = 3
level_of Lt = 3
level_of Le = 3
level_of Gt = 3
level_of Ge = 3
level_of LogAnd = 2
level_of LogOr = 1

-- how a unary operator other than `*` is written
abbrev pub unary_sign : UnOp → Terminal
unary_sign Plus = binary_op Add
unary_sign Minus = binary_op Sub
unary_sign Not = not_
unary_sign Flip = binary_op Xor
unary_sign Address = binary_op And
