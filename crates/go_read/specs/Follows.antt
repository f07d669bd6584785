-- Which tokens may follow a part that is read from left to right.
use Rattle.std.specs.Prelude.{◌≡◌, Bool, true, false, ◌∷◌}
use Rattle.go_tree.specs.GoWords.Terminals.{lex, ident, binary_op, semicolon, dot, paren, bracket, brace, end_brace}
use Rattle.go_read.specs.SpellsTypes.{Lexemes}

-- a name after a dot, which would go on with a type's name
abbrev pub is_dotted : Lexemes → Bool
is_dotted (lex _ dot ∷ lex _ (ident _) ∷ _) = true
is_dotted _ = false

-- nothing that would go on with an expression
abbrev pub ends_expr : Lexemes → Bool
ends_expr (lex _ paren ∷ _) = false
ends_expr (lex _ dot ∷ _) = false
ends_expr (lex _ bracket ∷ _) = false
ends_expr (lex _ (binary_op _) ∷ _) = false
ends_expr _ = true

-- a brace that would make a name before it a composite literal
abbrev pub literal_follows : Lexemes → Bool
literal_follows (lex _ brace ∷ _) = true
literal_follows (lex _ dot ∷ lex _ (ident _) ∷ lex _ brace ∷ _) = true
literal_follows _ = false

-- outside a header there is none
abbrev pub Plain : Bool → Lexemes → Type 0
Plain true rest = Unit {0}
Plain false rest = literal_follows rest ≡ false

-- what follows a statement of a list
abbrev pub closes_stmt : Lexemes → Bool
closes_stmt (lex _ semicolon ∷ _) = true
closes_stmt (lex _ end_brace ∷ _) = true
closes_stmt _ = false
