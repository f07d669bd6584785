-- Where an expression needs parentheses around it (Go specification, Operator precedence, Composite literals,
-- Conversions).
use Rattle.std.specs.Prelude.{ℕ, ◌+◌, Bool, true, false, not, ◌&&◌, ◌||◌, nat_lt}
use Rattle.go_tree.specs.declared.operators.UnOp.{UnOp}
use Rattle.go_tree.specs.declared.operators.UnOp.TheVariants.{Plus, Minus, Flip, Address}
use Rattle.go_tree.specs.Tree.{named, pointer, slice_type, map_type, struct_type, Expr, Exprs, no_exprs, expr_and}
use Rattle.go_tree.specs.Tree.{int_lit, composite, type_operand, unary, binary, star}
use Rattle.go_tree.specs.GoWords.Terminals.{level_of}

-- two operators that would be read as one: `++`, `--`, `&&`, `&^`
abbrev pub is_one_operator : UnOp → UnOp → Bool
is_one_operator Plus Plus = true
is_one_operator Minus Minus = true
is_one_operator Address Address = true
is_one_operator Address Flip = true
is_one_operator _ _ = false

module _ {S : Type 0} where
  -- how tightly the expression binds: a binary operator's level, 6 with an operator in front, 7 for the rest
  abbrev pub precedence : Expr S → ℕ
  precedence (unary _ _ _) = 6
  precedence (star _ _) = 6
  precedence (type_operand _ (pointer _ _)) = 6
  precedence (binary _ op _ _) = level_of op
  precedence _ = 7

  -- a composite literal whose brace would begin a block
  abbrev pub is_named_literal : Expr S → Bool
  is_named_literal (composite _ (named _ _ _) _) = true
  is_named_literal _ = false

  -- a type that begins with `[`, `map` or `struct`
  abbrev pub is_bracketed_type : Expr S → Bool
  is_bracketed_type (type_operand _ (slice_type _ _)) = true
  is_bracketed_type (type_operand _ (map_type _ _ _)) = true
  is_bracketed_type (type_operand _ (struct_type _ _)) = true
  is_bracketed_type _ = false

  -- In a place of this level, in a header outside brackets or not. `closed` says that `(`, `,` or `)` directly follows.
  abbrev pub needs_parens : ℕ → Bool → Bool → Expr S → Bool
  needs_parens level header closed e =
      nat_lt (precedence e) level || (header && is_named_literal e) || (not closed && is_bracketed_type e)

  -- an integer before a dot would be read as a number with a fraction
  abbrev pub is_integer : Expr S → Bool
  is_integer (int_lit _ _) = true
  is_integer _ = false

  -- the operator would be read as one with that in front of its operand
  abbrev pub runs_into : UnOp → Expr S → Bool
  runs_into op (unary _ inner _) = is_one_operator op inner
  runs_into op _ = false

  -- the last token of the expression's text is an integer literal
  abbrev pub ends_in_integer : Bool → Bool → Expr S → Bool
  ends_in_integer header closed (int_lit _ _) = true
  ends_in_integer header closed (unary _ op e) =
      not (needs_parens 6 header closed e || runs_into op e) && ends_in_integer header closed e
  ends_in_integer header closed (binary _ op a b) =
      not (needs_parens (level_of op + 1) header closed b) && ends_in_integer header closed b
  ends_in_integer header closed (star _ e) = not (needs_parens 6 header closed e) && ends_in_integer header closed e
  ends_in_integer header closed _ = false

  -- the same of a list's text
  abbrev pub last_ends_in_integer : Bool → Bool → Exprs S → Bool
  last_ends_in_integer header closed no_exprs = false
  last_ends_in_integer header closed (expr_and e no_exprs) =
      not (needs_parens 1 header closed e) && ends_in_integer header closed e
  last_ends_in_integer header closed (expr_and e (expr_and e2 es)) = last_ends_in_integer header closed (expr_and e2 es)

-- within parentheses no header is near
abbrev pub header_within : Bool → Bool → Bool
header_within true header = false
header_within false header = header

-- within parentheses `)` follows
abbrev pub closed_within : Bool → Bool → Bool
closed_within true closed = true
closed_within false closed = closed
