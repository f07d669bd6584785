-- A terminal as code has it, and as the grammar has it.
use Rattle.std.proofs.Common.{◌≡◌, ℕ, zero, suc, ◌<◌, List, [], ◌∷◌, map, length, get_or, refl, ap, sym, ◌∙◌, arith}
use Rattle.go_tree.specs.declared.tokens.Token.{Token}
use Rattle.go_tree.specs.GoWords.Terminals as pure
use Rattle.go_tree.specs.GoWords.Codes.{spelled, code_of, terminal_at}
use Rattle.go_tree.specs.declared.go_words.terminals.Terminal.{Terminal}
use Rattle.go_tree.specs.declared.go_words.terminals.Terminal.TheVariants as code

pub code_spelled : (t : Terminal) (w : List ℕ) → code_of (spelled t w) ≡ t
code_spelled (code.Binary op) w = refl
code_spelled (code.Assign op) w = refl
code_spelled code.Ident w = refl
code_spelled code.IntLit w = refl
code_spelled code.RuneLit w = refl
code_spelled code.StrLit w = refl
code_spelled code.Not w = refl
code_spelled code.Define w = refl
code_spelled code.Increment w = refl
code_spelled code.Decrement w = refl
code_spelled code.Comma w = refl
code_spelled code.Semicolon w = refl
code_spelled code.Colon w = refl
code_spelled code.Dot w = refl
code_spelled code.Ellipsis w = refl
code_spelled code.Paren w = refl
code_spelled code.EndParen w = refl
code_spelled code.Bracket w = refl
code_spelled code.EndBracket w = refl
code_spelled code.Brace w = refl
code_spelled code.EndBrace w = refl
code_spelled code.Break w = refl
code_spelled code.Case w = refl
code_spelled code.Const w = refl
code_spelled code.Continue w = refl
code_spelled code.Default w = refl
code_spelled code.Defer w = refl
code_spelled code.Else w = refl
code_spelled code.For w = refl
code_spelled code.Func w = refl
code_spelled code.If w = refl
code_spelled code.Import w = refl
code_spelled code.Map w = refl
code_spelled code.Package w = refl
code_spelled code.Range w = refl
code_spelled code.Return w = refl
code_spelled code.Struct w = refl
code_spelled code.Switch w = refl
code_spelled code.Type w = refl
code_spelled code.Var w = refl
code_spelled code.Foreign w = refl

-- what `terminal_of` answers of a token's kind and spelling
pub terminal_is : (t : Terminal) (token : Token) → spelled t token.spelling ≡ pure.terminal_of token.kind token.spelling → t ≡ terminal_at token
terminal_is t token e = sym (code_spelled t token.spelling) ∙ ap code_of e

-- what no production holds is the same in code
pub foreign_code : (t : pure.Terminal) (w : List ℕ) → pure.is_foreign (spelled (code_of t) w) ≡ pure.is_foreign t
foreign_code (pure.ident v) w = refl
foreign_code (pure.int_lit v) w = refl
foreign_code (pure.rune_lit v) w = refl
foreign_code (pure.str_lit v) w = refl
foreign_code (pure.binary_op op) w = refl
foreign_code (pure.assign op) w = refl
foreign_code pure.not_ w = refl
foreign_code pure.define w = refl
foreign_code pure.increment w = refl
foreign_code pure.decrement w = refl
foreign_code pure.comma w = refl
foreign_code pure.semicolon w = refl
foreign_code pure.colon w = refl
foreign_code pure.dot w = refl
foreign_code pure.ellipsis w = refl
foreign_code pure.paren w = refl
foreign_code pure.end_paren w = refl
foreign_code pure.bracket w = refl
foreign_code pure.end_bracket w = refl
foreign_code pure.brace w = refl
foreign_code pure.end_brace w = refl
foreign_code pure.key_break w = refl
foreign_code pure.key_case w = refl
foreign_code pure.key_const w = refl
foreign_code pure.key_continue w = refl
foreign_code pure.key_default w = refl
foreign_code pure.key_defer w = refl
foreign_code pure.key_else w = refl
foreign_code pure.key_for w = refl
foreign_code pure.key_func w = refl
foreign_code pure.key_if w = refl
foreign_code pure.key_import w = refl
foreign_code pure.key_map w = refl
foreign_code pure.key_package w = refl
foreign_code pure.key_range w = refl
foreign_code pure.key_return w = refl
foreign_code pure.key_struct w = refl
foreign_code pure.key_switch w = refl
foreign_code pure.key_type w = refl
foreign_code pure.key_var w = refl
foreign_code pure.foreign w = refl

-- the terminal that stands beside a token
pub terminal_beside : (tokens : List Token) (i : ℕ) (t : Token) (x : Terminal) → i < length tokens → t ≡ get_or tokens i t → x ≡ get_or (map terminal_at tokens) i x → x ≡ terminal_at t
terminal_beside [] i t x lt e f = absurd (omega (arith, lt))
terminal_beside (u ∷ us) zero t x lt e f = f ∙ ap terminal_at (sym e)
terminal_beside (u ∷ us) (suc i) t x lt e f = terminal_beside us i t x (omega (arith, lt)) e f
