-- The string literals among tokens.
use Rattle.std.specs.Prelude.{[], ◌∷◌}
use Rattle.go_tree.specs.GoWords.Terminals.{Terminal, lex, str_lit}
use Rattle.go_read.specs.SpellsTypes.{Lexemes}
use Rattle.go_tree.specs.GoLiterals.Strings.{IsString}

-- a string literal has the form of one (Go specification, String literals)
abbrev pub IsSound : Terminal → Type 0
IsSound (str_lit p) = IsString p
IsSound _ = Unit {0}

-- each string literal has the form of one
unfoldable pub HasTexts : Lexemes → Type 0
HasTexts [] = Unit {0}
HasTexts (lex s t ∷ ts) = IsSound t × HasTexts ts
