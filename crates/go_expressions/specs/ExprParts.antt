-- Parts of expressions that no goal of the reader is for.
use Rattle.std.specs.Prelude.{ℕ, Bool, true, false, nat_le, if◌then◌else◌, List, ◌∷◌, Option, Some, None}
use Rattle.std.specs.Prelude.{option_and_then}
use Rattle.go_tree.specs.declared.exprs.Rest.{Rest}
use Rattle.go_tree.specs.declared.spans.Span.{Span}
use Rattle.go_tree.specs.declared.operators.BinOp.{BinOp}
use Rattle.go_tree.specs.declared.operators.BinOp.TheVariants.{Mul, Add, Sub, Xor, And}
use Rattle.go_tree.specs.declared.operators.UnOp.TheVariants.{Plus, Minus, Not, Flip, Address}
use Rattle.go_tree.specs.Tree.{TypeExpr, Expr, Exprs, ExprOption, Elems, ValueOption, Value, ident, elem, int_lit}
use Rattle.go_tree.specs.Tree.{rune_lit, str_lit, composite, selector, index, slice, call, func_lit, type_operand}
use Rattle.go_tree.specs.Tree.{unary, star, expr_and, no_expr, some_expr}
use Rattle.go_tree.specs.GoWords.Terminals as terminal
use Rattle.go_tree.specs.GoWords.Terminals.{lex, comma, colon, dot, paren, end_paren, bracket, end_bracket, brace}
use Rattle.go_tree.specs.GoWords.Terminals.{key_func, key_map, key_struct, level_of}
use Rattle.go_read.specs.SpellsSpans.{span_to}
use Rattle.go_read.specs.SpellsTypes.{Lexemes, name_here}
use Rattle.go_read.specs.Spells.{is_func_lit}
use Rattle.go_read.specs.Goals.{read_type, read_sig, read_expr, read_operand, read_args, read_elems, read_elem}
use Rattle.go_read.specs.Goals.{read_block}
use Rattle.go_read.specs.Programs.{Program, give, fail, ask, unless, run, after_end_brace, after_end_bracket}
use Rattle.go_read.specs.Programs.{after_end_paren}
use Rattle.go_read.specs.Reading.{at}
use Rattle.go_tree.specs.View.{expr_of, exprs_of}
use Rattle.go_expressions.specs.declared.basics.Args.{Args}
use Rattle.go_expressions.specs.declared.basics.Operand.{Operand}
use Rattle.go_expressions.specs.declared.prefixes.Prefix.{Prefix}
use Rattle.go_expressions.specs.declared.prefixes.Prefix.TheVariants as prefix
use Rattle.go_tree.specs.declared.go_words.terminals.Terminal.{Terminal}
use Rattle.go_tree.specs.declared.go_words.terminals.Terminal.TheVariants as code

-- ---- operators

-- the unary operator that a terminal is, if it is one
abbrev pub prefix_of : Terminal → Option Prefix
prefix_of code.Not = Some (prefix.Sign Not)
prefix_of (code.Binary Mul) = Some prefix.Star
prefix_of (code.Binary Add) = Some (prefix.Sign Plus)
prefix_of (code.Binary Sub) = Some (prefix.Sign Minus)
prefix_of (code.Binary Xor) = Some (prefix.Sign Flip)
prefix_of (code.Binary And) = Some (prefix.Sign Address)
prefix_of _ = None

-- the expression that the operator makes of its operand
abbrev pub prefixed : Prefix → Span → Expr Span → Expr Span
prefixed prefix.Star s e = star s e
prefixed (prefix.Sign op) s e = unary s op e

-- the binary operator that a terminal is, of at least a level
abbrev pub binary_of : ℕ → Terminal → Option BinOp
binary_of level (code.Binary op) = if nat_le level (level_of op) then Some op else None
binary_of level _ = None

-- ---- operands

-- a read operand as a value, and whether no parentheses stand around it
abbrev pub operand_of : Operand → Expr Span × Bool
operand_of x = (expr_of x.e, x.bare)

-- the name or the basic literal with this spelling
abbrev pub plain_of : Terminal → Span → List ℕ → Expr Span
plain_of code.Ident s w = ident s w
plain_of code.IntLit s w = int_lit s w
plain_of code.RuneLit s w = rune_lit s w
plain_of _ s w = str_lit s w

-- whether a composite literal begins with a name here: outside of a header
abbrev pub literal_here : Bool → Lexemes → Bool
literal_here true ts = false
literal_here false (lex s (terminal.ident n) ∷ lex b brace ∷ ts) = true
literal_here false (lex s (terminal.ident p) ∷ lex d dot ∷ lex s2 (terminal.ident n) ∷ lex b brace ∷ ts) = true
literal_here false _ = false

-- whether what follows lets a type be an operand
abbrev pub follows_type : Terminal → Bool
follows_type code.Paren = true
follows_type code.Comma = true
follows_type code.EndParen = true
follows_type _ = false

-- the elements and the brace of a composite literal of this type
abbrev pub composite_program : Lexemes → TypeExpr Span → Lexemes → Program Span (Expr Span × Bool)
composite_program whole t ts =
    ask read_elems ts (λ es r. after_end_brace r (λ r. give (composite (span_to whole r) t es, true) r))

-- the rest of a composite literal of this type, as it is read from these tokens
unfoldable pub composite_at : Lexemes → TypeExpr Span → Lexemes → Option ((Expr Span × Bool) × Lexemes)
composite_at whole t ts = run (at span_to) (composite_program whole t ts)

-- a type as an operand, or in front of a composite literal
abbrev pub typed_after : Lexemes → TypeExpr Span → Lexemes → Program Span (Expr Span × Bool)
typed_after whole t (lex b brace ∷ ts) = composite_program whole t ts
typed_after whole t (lex b paren ∷ ts) =
    give (type_operand (span_to whole (lex b paren ∷ ts)) t, true) (lex b paren ∷ ts)
typed_after whole t (lex b comma ∷ ts) =
    give (type_operand (span_to whole (lex b comma ∷ ts)) t, true) (lex b comma ∷ ts)
typed_after whole t (lex b end_paren ∷ ts) =
    give (type_operand (span_to whole (lex b end_paren ∷ ts)) t, true) (lex b end_paren ∷ ts)
typed_after whole t _ = fail

-- an operand that begins with a type
abbrev pub typed_program : Lexemes → Program Span (Expr Span × Bool)
typed_program ts = ask read_type ts (λ t r. typed_after ts t r)

-- an operand that begins with a type, as it is read from these tokens
unfoldable pub typed_at : Lexemes → Option ((Expr Span × Bool) × Lexemes)
typed_at ts = run (at span_to) (typed_program ts)

-- an operand that begins with a name: a composite literal where one may begin, or else the name
abbrev pub word_program : Bool → Lexemes → Lexemes → List ℕ → Program Span (Expr Span × Bool)
word_program true whole ts n = typed_program whole
word_program false whole ts n = give (ident (span_to whole ts) n, true) ts

-- an operand without what may follow it
abbrev pub operand_program : Bool → Lexemes → Program Span (Expr Span × Bool)
operand_program header (lex s (terminal.ident n) ∷ ts) =
    word_program (literal_here header (lex s (terminal.ident n) ∷ ts)) (lex s (terminal.ident n) ∷ ts) ts n
operand_program header (lex s (terminal.int_lit n) ∷ ts) =
    give (int_lit (span_to (lex s (terminal.int_lit n) ∷ ts) ts) n, true) ts
operand_program header (lex s (terminal.rune_lit n) ∷ ts) =
    give (rune_lit (span_to (lex s (terminal.rune_lit n) ∷ ts) ts) n, true) ts
operand_program header (lex s (terminal.str_lit n) ∷ ts) =
    give (str_lit (span_to (lex s (terminal.str_lit n) ∷ ts) ts) n, true) ts
operand_program header (lex s paren ∷ ts) =
    ask (read_expr 1 false) ts (λ x r. after_end_paren r (λ r. give (x.0, false) r))
operand_program header (lex s key_func ∷ ts) =
    ask (read_sig false) ts
    (λ g mid. ask read_block mid (λ b r. give (func_lit (span_to (lex s key_func ∷ ts) r) g b.0 b.1, true) r))
operand_program header (lex s bracket ∷ ts) = typed_program (lex s bracket ∷ ts)
operand_program header (lex s key_map ∷ ts) = typed_program (lex s key_map ∷ ts)
operand_program header (lex s key_struct ∷ ts) = typed_program (lex s key_struct ∷ ts)
operand_program header _ = fail

-- an operand without what may follow it, as it is read from these tokens
unfoldable pub operand_at : Bool → Lexemes → Option ((Expr Span × Bool) × Lexemes)
operand_at header ts = run (at span_to) (operand_program header ts)

-- ---- what may follow an operand

-- arguments, a name after a dot, an index or bounds
abbrev pub continues : Lexemes → Bool
continues (lex s paren ∷ ts) = true
continues (lex d dot ∷ lex s (terminal.ident n) ∷ ts) = true
continues (lex s bracket ∷ ts) = true
continues _ = false

-- after the colon of a slice
abbrev pub high_program : Lexemes → Expr Span → ExprOption Span → Lexemes → Program Span (Expr Span)
high_program whole base low (lex s end_bracket ∷ ts) = give (slice (span_to whole ts) base low no_expr) ts
high_program whole base low ts =
    ask (read_operand false) ts
    (λ x r. after_end_bracket r (λ r. give (slice (span_to whole r) base low (some_expr x)) r))

-- what stands after the colon of a slice, as it is read from these tokens
unfoldable pub high_at : Lexemes → Expr Span → ExprOption Span → Lexemes → Option (Expr Span × Lexemes)
high_at whole base low ts = run (at span_to) (high_program whole base low ts)

-- behind the first expression in brackets: the end of an index, or the colon of a slice
abbrev pub index_after : Lexemes → Expr Span → Expr Span → Lexemes → Program Span (Expr Span)
index_after whole base x (lex s end_bracket ∷ ts) = give (index (span_to whole ts) base x) ts
index_after whole base x (lex s colon ∷ ts) = high_program whole base (some_expr x) ts
index_after whole base x _ = fail

-- after an opening bracket
abbrev pub brackets_program : Lexemes → Expr Span → Lexemes → Program Span (Expr Span)
brackets_program whole base (lex s colon ∷ ts) = high_program whole base no_expr ts
brackets_program whole base ts = ask (read_operand false) ts (λ x r. index_after whole base x r)

-- what stands after an opening bracket, as it is read from these tokens
unfoldable pub brackets_at : Lexemes → Expr Span → Lexemes → Option (Expr Span × Lexemes)
brackets_at whole base ts = run (at span_to) (brackets_program whole base ts)

-- an operand and one part after it
abbrev pub postfix_program : Lexemes → Expr Span → Lexemes → Program Span (Expr Span)
postfix_program whole base (lex s paren ∷ ts) = ask read_args ts (λ x r. give (call (span_to whole r) base x.0 x.1) r)
postfix_program whole base (lex d dot ∷ lex s (terminal.ident n) ∷ r) =
    unless (is_func_lit base) (give (selector (span_to whole r) base (name_here span_to s n r)) r)
postfix_program whole base (lex s bracket ∷ ts) = unless (is_func_lit base) (brackets_program whole base ts)
postfix_program whole base _ = fail

-- an operand with one part after it, as it is read from these tokens
unfoldable pub postfix_at : Lexemes → Expr Span → Lexemes → Option (Expr Span × Lexemes)
postfix_at whole base ts = run (at span_to) (postfix_program whole base ts)

-- ---- arguments

-- an argument in front of arguments
abbrev pub arg_and : Expr Span → Exprs Span × Rest → Exprs Span × Rest
arg_and e x = (expr_and e x.0, x.1)

-- arguments with what stands behind the last, as the grammar tells them
abbrev pub args_of : Args → Exprs Span × Rest
args_of x = (exprs_of x.list, x.rest)

-- ---- elements

-- an element with its span
unfoldable pub elem_at : Lexemes → Option ((Span × ValueOption Span × Value Span) × Lexemes)
elem_at ts = option_and_then (λ x. Some ((span_to ts x.1, x.0.0, x.0.1), x.1)) (at span_to read_elem ts)

-- an element in front of elements
abbrev pub elem_and : Span × ValueOption Span × Value Span → Elems Span → Elems Span
elem_and x es = elem x.0 x.1 x.2 es
