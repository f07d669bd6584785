-- The terminals as code has them, and where it looks for a word in a table (Go specification, Tokens).
use Rattle.std.specs.Prelude.{ℕ, zero, suc, ◌+◌, ◌*◌, ◌%◌, List, [], ◌∷◌, length, slice_index}
use Rattle.std.specs.Prelude.{Option, Some, None, if◌then◌else◌, bytes_eq}
use Rattle.go_tree.specs.declared.tokens.Token.{Token}
use Rattle.go_tree.specs.GoWords.Terminals as pure
use Rattle.go_tree.specs.declared.go_words.terminals.Terminal.{Terminal}
use Rattle.go_tree.specs.declared.go_words.terminals.Terminal.TheVariants as code

-- the terminal of the grammar, with the bytes of a name or a literal
abbrev pub spelled : Terminal → List ℕ → pure.Terminal
spelled code.Ident w = pure.ident w
spelled code.IntLit w = pure.int_lit w
spelled code.RuneLit w = pure.rune_lit w
spelled code.StrLit w = pure.str_lit w
spelled (code.Binary op) w = pure.binary_op op
spelled (code.Assign op) w = pure.assign op
spelled code.Not w = pure.not_
spelled code.Define w = pure.define
spelled code.Increment w = pure.increment
spelled code.Decrement w = pure.decrement
spelled code.Comma w = pure.comma
spelled code.Semicolon w = pure.semicolon
spelled code.Colon w = pure.colon
spelled code.Dot w = pure.dot
spelled code.Ellipsis w = pure.ellipsis
spelled code.Paren w = pure.paren
spelled code.EndParen w = pure.end_paren
spelled code.Bracket w = pure.bracket
spelled code.EndBracket w = pure.end_bracket
spelled code.Brace w = pure.brace
spelled code.EndBrace w = pure.end_brace
spelled code.Break w = pure.key_break
spelled code.Case w = pure.key_case
spelled code.Const w = pure.key_const
spelled code.Continue w = pure.key_continue
spelled code.Default w = pure.key_default
spelled code.Defer w = pure.key_defer
spelled code.Else w = pure.key_else
spelled code.For w = pure.key_for
spelled code.Func w = pure.key_func
spelled code.If w = pure.key_if
spelled code.Import w = pure.key_import
spelled code.Map w = pure.key_map
spelled code.Package w = pure.key_package
spelled code.Range w = pure.key_range
spelled code.Return w = pure.key_return
spelled code.Struct w = pure.key_struct
spelled code.Switch w = pure.key_switch
spelled code.Type w = pure.key_type
spelled code.Var w = pure.key_var
spelled code.Foreign w = pure.foreign

-- the terminal as code has it
abbrev pub code_of : pure.Terminal → Terminal
code_of (pure.ident w) = code.Ident
code_of (pure.int_lit w) = code.IntLit
code_of (pure.rune_lit w) = code.RuneLit
code_of (pure.str_lit w) = code.StrLit
code_of (pure.binary_op op) = code.Binary op
code_of (pure.assign op) = code.Assign op
code_of pure.not_ = code.Not
code_of pure.define = code.Define
code_of pure.increment = code.Increment
code_of pure.decrement = code.Decrement
code_of pure.comma = code.Comma
code_of pure.semicolon = code.Semicolon
code_of pure.colon = code.Colon
code_of pure.dot = code.Dot
code_of pure.ellipsis = code.Ellipsis
code_of pure.paren = code.Paren
code_of pure.end_paren = code.EndParen
code_of pure.bracket = code.Bracket
code_of pure.end_bracket = code.EndBracket
code_of pure.brace = code.Brace
code_of pure.end_brace = code.EndBrace
code_of pure.key_break = code.Break
code_of pure.key_case = code.Case
code_of pure.key_const = code.Const
code_of pure.key_continue = code.Continue
code_of pure.key_default = code.Default
code_of pure.key_defer = code.Defer
code_of pure.key_else = code.Else
code_of pure.key_for = code.For
code_of pure.key_func = code.Func
code_of pure.key_if = code.If
code_of pure.key_import = code.Import
code_of pure.key_map = code.Map
code_of pure.key_package = code.Package
code_of pure.key_range = code.Range
code_of pure.key_return = code.Return
code_of pure.key_struct = code.Struct
code_of pure.key_switch = code.Switch
code_of pure.key_type = code.Type
code_of pure.key_var = code.Var
code_of pure.foreign = code.Foreign

-- the terminal of a token, as code has it
abbrev pub terminal_at : Token → Terminal
terminal_at t = code_of (pure.terminal_of t.kind t.spelling)

-- ---- a word in a table

-- a word that no table has is foreign
abbrev pub foreign_or : Option pure.Terminal → pure.Terminal
foreign_or None = pure.foreign
foreign_or (Some t) = t

-- the terminal of the first row of the word
abbrev pub row_of : List (List ℕ × pure.Terminal) → List ℕ → Option pure.Terminal
row_of [] word = None
row_of (row ∷ rows) word = if bytes_eq row.0 word then Some row.1 else row_of rows word

-- the terminal of the row at this place, where it is the word's
abbrev pub row_at : List (List ℕ × pure.Terminal) → ℕ → List ℕ → Option pure.Terminal
row_at [] at word = None
row_at (row ∷ rows) zero word = if bytes_eq row.0 word then Some row.1 else None
row_at (row ∷ rows) (suc at) word = row_at rows at word

-- the hash of a word, by its first two bytes and its length
abbrev pub hash_of : ℕ → ℕ → List ℕ → ℕ
hash_of second size word = slice_index word 0 + second * slice_index word 1 + size * (length word % 64)
