-- The tokens that a reader sees first (Go specification, Tokens).
use Rattle.std.specs.Prelude.{ℕ, Bool, true, false, List, [], ◌∷◌, Option, Some, None}
use Rattle.go_tree.specs.GoWords.Terminals as pure
use Rattle.go_tree.specs.declared.spans.Span.{Span}
use Rattle.go_tree.specs.Tree.{NameAt}
use Rattle.go_read.specs.SpellsSpans.{span_to}
use Rattle.go_read.specs.SpellsTypes.{Lexemes}
use Rattle.go_tree.specs.declared.go_words.terminals.Terminal.{Terminal}
use Rattle.go_tree.specs.declared.go_words.terminals.Terminal.TheVariants as code
use Rattle.go_tree.specs.GoWords.Codes.{code_of}

-- the first terminal, or `Foreign` where no token is left
abbrev pub first_of : Lexemes → Terminal
first_of [] = code.Foreign
first_of (pure.lex s t ∷ ts) = code_of t

-- the byte at which the first token begins, where one is left
abbrev pub start_at : Lexemes → Option ℕ
start_at [] = None
start_at (pure.lex s t ∷ ts) = Some s.start

-- the tokens after the first
abbrev pub rest_of : Lexemes → Lexemes
rest_of [] = []
rest_of (x ∷ ts) = ts

-- the bytes of a name or a literal; other terminals have none of their own
abbrev pub letters_of : pure.Terminal → List ℕ
letters_of (pure.ident w) = w
letters_of (pure.int_lit w) = w
letters_of (pure.rune_lit w) = w
letters_of (pure.str_lit w) = w
letters_of _ = []

-- the bytes of the name or the literal that stands first
abbrev pub spelling_of : Lexemes → List ℕ
spelling_of [] = []
spelling_of (pure.lex s t ∷ ts) = letters_of t

-- the name that stands first
abbrev pub name_of : Lexemes → NameAt Span
name_of ts = record { span = span_to ts (rest_of ts); name = spelling_of ts }

-- how many tokens stand there at least
abbrev pub taken : Terminal → ℕ
taken code.Foreign = 0
taken _ = 1

-- names and literals, whose bytes differ from token to token
abbrev pub has_letters : Terminal → Bool
has_letters code.Ident = true
has_letters code.IntLit = true
has_letters code.RuneLit = true
has_letters code.StrLit = true
has_letters _ = false
