-- Terminals that are tokens of a text.
use Rattle.std.specs.Prelude.{◌≡◌, true, [], ◌∷◌}
use Rattle.go_tree.specs.declared.tokens.TokenKind.TheVariants.{Ident, Integer, Rune, Str}
use Rattle.go_tree.specs.GoWords.Terminals.{Terminal, lex, ident, int_lit, rune_lit, str_lit, assign}
use Rattle.go_read.specs.SpellsTypes.{Lexemes}
use Rattle.go_layout.specs.LayoutLaws.Formed.{IsToken, is_assign}

-- its spelling is that of a token, and `op=` is an operator
abbrev pub IsReal : Terminal → Type 0
IsReal (ident n) = IsToken Ident n
IsReal (int_lit n) = IsToken Integer n
IsReal (rune_lit n) = IsToken Rune n
IsReal (str_lit n) = IsToken Str n
IsReal (assign op) = is_assign op ≡ true
IsReal _ = Unit {0}

-- so are all of them
abbrev pub AreReal : Lexemes → Type 0
AreReal [] = Unit {0}
AreReal (lex _ x ∷ ts) = IsReal x × AreReal ts
