-- What begins with a semicolon, and what may follow a node in its place (Go specification, Semicolons, Operators and
-- punctuation).
use Rattle.std.specs.Prelude.{Bool, true, false, [], ◌∷◌}
use Rattle.go_tree.specs.GoWords.Terminals.{Terminal, lex, binary_op, assign, define, increment, decrement, comma}
use Rattle.go_tree.specs.GoWords.Terminals.{semicolon, colon, dot, ellipsis, paren, end_paren, bracket, end_bracket}
use Rattle.go_tree.specs.GoWords.Terminals.{brace, end_brace}
use Rattle.go_read.specs.SpellsTypes.{Lexemes}

-- a semicolon comes first
abbrev pub begins_semicolon : Lexemes → Bool
begins_semicolon (lex _ semicolon ∷ _) = true
begins_semicolon _ = false

-- what follows a node in a place: an operator other than `!`
abbrev pub stops : Terminal → Bool
stops (binary_op _) = true
stops (assign _) = true
stops define = true
stops increment = true
stops decrement = true
stops comma = true
stops semicolon = true
stops colon = true
stops dot = true
stops ellipsis = true
stops paren = true
stops end_paren = true
stops bracket = true
stops end_bracket = true
stops brace = true
stops end_brace = true
stops _ = false

-- what comes first may follow a node in a place
abbrev pub ends_node : Lexemes → Bool
ends_node [] = false
ends_node (lex _ x ∷ _) = stops x
