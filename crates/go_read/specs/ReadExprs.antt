-- One step of reading an expression.
use Rattle.std.specs.Prelude.{ℕ, ◌+◌, Bool, true, false, nat_le, List, ◌∷◌, Some, None, if◌then◌else◌}
use Rattle.go_tree.specs.declared.spans.Span.{Span}
use Rattle.go_tree.specs.declared.operators.BinOp.{BinOp}
use Rattle.go_tree.specs.declared.operators.BinOp.TheVariants.{Mul, Add, Sub, Xor, And}
use Rattle.go_tree.specs.declared.operators.UnOp.{UnOp}
use Rattle.go_tree.specs.declared.operators.UnOp.TheVariants.{Plus, Minus, Not, Flip, Address}
use Rattle.go_tree.specs.declared.exprs.Rest.{Rest}
use Rattle.go_tree.specs.declared.exprs.Rest.TheVariants.{Plain, Whole}
use Rattle.go_tree.specs.Tree.{TypeExpr, named, Expr, Exprs, ExprOption, Elems, Value, ValueOption, ident, int_lit}
use Rattle.go_tree.specs.Tree.{rune_lit, str_lit, composite, selector, index, slice, call, func_lit, type_operand}
use Rattle.go_tree.specs.Tree.{unary, binary, star, no_exprs, expr_and, no_expr, some_expr, no_elems, elem, plain}
use Rattle.go_tree.specs.Tree.{braced, no_value, some_value}
use Rattle.go_tree.specs.GoWords.Terminals as terminal
use Rattle.go_tree.specs.GoWords.Terminals.{lex, binary_op, not_, comma, colon, dot, ellipsis, paren, end_paren}
use Rattle.go_tree.specs.GoWords.Terminals.{bracket, end_bracket, brace, end_brace, key_func, key_map, key_struct}
use Rattle.go_tree.specs.GoWords.Terminals.{level_of}
use Rattle.go_read.specs.SpellsTypes.{Lexemes, name_here}
use Rattle.go_read.specs.Spells.{is_func_lit}
use Rattle.go_read.specs.Goals.{read_type, read_sig, read_expr, read_more, read_unary, read_postfix, read_operand}
use Rattle.go_read.specs.Goals.{read_exprs, read_args, read_elems, read_elem, read_value, read_block}
use Rattle.go_read.specs.Programs.{Program, give, fail, ask, unless, after_end_brace, after_end_bracket}
use Rattle.go_read.specs.Programs.{after_end_paren}

module _ {S : Type 0} (mark : Lexemes → Lexemes → S) where
  -- an expression: a unary one, and what operators of the level or above follow
  unfoldable pub expr_step : ℕ → Bool → Lexemes → Program S (Expr S × Bool)
  expr_step level header ts =
      ask (read_unary header) ts (λ x r. ask (read_more level header ts x.0 x.1) r (λ y r. give y r))

  -- the right operand, and what follows it
  abbrev pub binary_step : ℕ → Bool → Lexemes → Expr S → BinOp → Lexemes → Program S (Expr S × Bool)
  binary_step level header whole left op ts =
      ask (read_expr (level_of op + 1) header) ts
      (λ x r. unless (is_func_lit x.0)
      (ask (read_more level header whole (binary (mark whole r) op left x.0) true) r (λ y r. give y r)))

  -- what follows a left operand: a binary operator that binds as tightly as the level, or nothing
  unfoldable pub more_step : ℕ → Bool → Lexemes → Expr S → Bool → Lexemes → Program S (Expr S × Bool)
  more_step level header whole left bare (lex s (binary_op op) ∷ ts) =
      if nat_le level (level_of op) then unless (is_func_lit left) (binary_step level header whole left op ts)
      else give (left, bare) (lex s (binary_op op) ∷ ts)
  more_step level header whole left bare ts = give (left, bare) ts

  -- an operand that holds the tokens from `whole` on, and what may follow it
  abbrev pub then_postfix : Bool → Lexemes → Expr S → Bool → Lexemes → Program S (Expr S × Bool)
  then_postfix header whole base bare ts = ask (read_postfix header whole base bare) ts (λ y r. give y r)

  -- the rest of a composite literal, from behind its opening brace on
  abbrev pub composite_step : Bool → Lexemes → TypeExpr S → Lexemes → Program S (Expr S × Bool)
  composite_step header whole t ts =
      ask read_elems ts
      (λ es r. after_end_brace r (λ r. then_postfix header whole (composite (mark whole r) t es) true r))

  -- an operand that begins with a name: a composite literal outside a header, or the name
  abbrev pub word_step : Bool → Span → List ℕ → Lexemes → Program S (Expr S × Bool)
  word_step false s n (lex b brace ∷ ts) =
      composite_step false (lex s (terminal.ident n) ∷ lex b brace ∷ ts)
      (named (mark (lex s (terminal.ident n) ∷ lex b brace ∷ ts) (lex b brace ∷ ts)) None
      (name_here mark s n (lex b brace ∷ ts))) ts
  word_step false s p (lex d dot ∷ lex s2 (terminal.ident n) ∷ lex b brace ∷ ts) =
      composite_step false (lex s (terminal.ident p) ∷ lex d dot ∷ lex s2 (terminal.ident n) ∷ lex b brace ∷ ts)
      (named (mark (lex s (terminal.ident p) ∷ lex d dot ∷ lex s2 (terminal.ident n) ∷ lex b brace ∷ ts)
      (lex b brace ∷ ts)) (Some (name_here mark s p (lex d dot ∷ lex s2 (terminal.ident n) ∷ lex b brace ∷ ts)))
      (name_here mark s2 n (lex b brace ∷ ts))) ts
  word_step header s n ts =
      then_postfix header (lex s (terminal.ident n) ∷ ts) (ident (mark (lex s (terminal.ident n) ∷ ts) ts) n) true ts

  -- a type as an operand, or in front of a composite literal
  abbrev pub type_after : Bool → Lexemes → TypeExpr S → Lexemes → Program S (Expr S × Bool)
  type_after header whole t (lex b brace ∷ ts) = composite_step header whole t ts
  type_after header whole t (lex b paren ∷ ts) =
      then_postfix header whole (type_operand (mark whole (lex b paren ∷ ts)) t) true (lex b paren ∷ ts)
  type_after header whole t (lex b comma ∷ ts) =
      then_postfix header whole (type_operand (mark whole (lex b comma ∷ ts)) t) true (lex b comma ∷ ts)
  type_after header whole t (lex b end_paren ∷ ts) =
      then_postfix header whole (type_operand (mark whole (lex b end_paren ∷ ts)) t) true (lex b end_paren ∷ ts)
  type_after header whole t _ = fail

  -- an operand that begins with a type that is no name
  abbrev pub type_first : Bool → Lexemes → Program S (Expr S × Bool)
  type_first header ts = ask read_type ts (λ t r. type_after header ts t r)

  -- a unary operator and its operand
  abbrev pub prefix_step : Bool → Lexemes → UnOp → Lexemes → Program S (Expr S × Bool)
  prefix_step header whole op ts =
      ask (read_unary header) ts (λ x r. unless (is_func_lit x.0) (give (unary (mark whole r) op x.0, true) r))

  -- a unary expression or an operand, by its first token
  unfoldable pub unary_step : Bool → Lexemes → Program S (Expr S × Bool)
  unary_step header (lex s (terminal.ident n) ∷ ts) = word_step header s n ts
  unary_step header (lex s (terminal.int_lit n) ∷ ts) =
      then_postfix header (lex s (terminal.int_lit n) ∷ ts)
      (int_lit (mark (lex s (terminal.int_lit n) ∷ ts) ts) n) true ts
  unary_step header (lex s (terminal.rune_lit n) ∷ ts) =
      then_postfix header (lex s (terminal.rune_lit n) ∷ ts)
      (rune_lit (mark (lex s (terminal.rune_lit n) ∷ ts) ts) n) true ts
  unary_step header (lex s (terminal.str_lit n) ∷ ts) =
      then_postfix header (lex s (terminal.str_lit n) ∷ ts)
      (str_lit (mark (lex s (terminal.str_lit n) ∷ ts) ts) n) true ts
  unary_step header (lex s paren ∷ ts) =
      ask (read_expr 1 false) ts (λ x r. after_end_paren r (λ r. then_postfix header (lex s paren ∷ ts) x.0 false r))
  unary_step header (lex s key_func ∷ ts) =
      ask (read_sig false) ts
      (λ g mid. ask read_block mid
      (λ b r. then_postfix header (lex s key_func ∷ ts) (func_lit (mark (lex s key_func ∷ ts) r) g b.0 b.1) true r))
  unary_step header (lex s bracket ∷ ts) = type_first header (lex s bracket ∷ ts)
  unary_step header (lex s key_map ∷ ts) = type_first header (lex s key_map ∷ ts)
  unary_step header (lex s key_struct ∷ ts) = type_first header (lex s key_struct ∷ ts)
  unary_step header (lex s (binary_op Mul) ∷ ts) =
      ask (read_unary header) ts
      (λ x r. unless (is_func_lit x.0) (give (star (mark (lex s (binary_op Mul) ∷ ts) r) x.0, true) r))
  unary_step header (lex s (binary_op Add) ∷ ts) = prefix_step header (lex s (binary_op Add) ∷ ts) Plus ts
  unary_step header (lex s (binary_op Sub) ∷ ts) = prefix_step header (lex s (binary_op Sub) ∷ ts) Minus ts
  unary_step header (lex s (binary_op Xor) ∷ ts) = prefix_step header (lex s (binary_op Xor) ∷ ts) Flip ts
  unary_step header (lex s (binary_op And) ∷ ts) = prefix_step header (lex s (binary_op And) ∷ ts) Address ts
  unary_step header (lex s not_ ∷ ts) = prefix_step header (lex s not_ ∷ ts) Not ts
  unary_step header _ = fail

  -- after the colon of a slice
  abbrev pub bracket_high : Bool → Lexemes → Expr S → ExprOption S → Lexemes → Program S (Expr S × Bool)
  bracket_high header whole base low (lex _ end_bracket ∷ ts) =
      then_postfix header whole (slice (mark whole ts) base low no_expr) true ts
  bracket_high header whole base low ts =
      ask (read_operand false) ts
      (λ x r. after_end_bracket r
      (λ r. then_postfix header whole (slice (mark whole r) base low (some_expr x)) true r))

  -- behind the first expression in brackets: the end of an index, or the colon of a slice
  abbrev pub bracket_after : Bool → Lexemes → Expr S → Expr S → Lexemes → Program S (Expr S × Bool)
  bracket_after header whole base x (lex _ end_bracket ∷ ts) =
      then_postfix header whole (index (mark whole ts) base x) true ts
  bracket_after header whole base x (lex _ colon ∷ ts) = bracket_high header whole base (some_expr x) ts
  bracket_after header whole base x _ = fail

  -- what stands in brackets behind an operand: an index, or a slice
  abbrev pub bracket_step : Bool → Lexemes → Expr S → Lexemes → Program S (Expr S × Bool)
  bracket_step header whole base (lex _ colon ∷ ts) = bracket_high header whole base no_expr ts
  bracket_step header whole base ts = ask (read_operand false) ts (λ x r. bracket_after header whole base x r)

  -- what may follow an operand: a call, a selector, an index or a slice, any number of times
  unfoldable pub postfix_step : Bool → Lexemes → Expr S → Bool → Lexemes → Program S (Expr S × Bool)
  postfix_step header whole base bare (lex _ paren ∷ ts) =
      ask read_args ts (λ x r. then_postfix header whole (call (mark whole r) base x.0 x.1) true r)
  postfix_step header whole base bare (lex _ dot ∷ lex s (terminal.ident n) ∷ r) =
      unless (is_func_lit base) (then_postfix header whole (selector (mark whole r) base (name_here mark s n r)) true r)
  postfix_step header whole base bare (lex _ bracket ∷ ts) =
      unless (is_func_lit base) (bracket_step header whole base ts)
  postfix_step header whole base bare ts = give (base, bare) ts

  -- an expression that is no literal of a function
  unfoldable pub operand_step : Bool → Lexemes → Program S (Expr S)
  operand_step header ts = ask (read_expr 1 header) ts (λ x r. unless (is_func_lit x.0) (give x.0 r))

  -- behind an expression of a list: a comma and further ones, or the end
  abbrev pub exprs_after : Bool → Expr S → Lexemes → Program S (Exprs S)
  exprs_after header e (lex _ comma ∷ ts) = ask (read_exprs header) ts (λ es r. give (expr_and e es) r)
  exprs_after header e ts = give (expr_and e no_exprs) ts

  -- a list of expressions
  unfoldable pub exprs_step : Bool → Lexemes → Program S (Exprs S)
  exprs_step header ts = ask (read_operand header) ts (λ e r. exprs_after header e r)

  -- behind an argument: a comma and further ones, or the end, perhaps with `...`
  abbrev pub args_after : Expr S → Lexemes → Program S (Exprs S × Rest)
  args_after e (lex _ comma ∷ ts) = ask read_args ts (λ x r. give (expr_and e x.0, x.1) r)
  args_after e (lex _ end_paren ∷ r) = give (expr_and e no_exprs, Plain) r
  args_after e (lex _ ellipsis ∷ lex _ end_paren ∷ r) = give (expr_and e no_exprs, Whole) r
  args_after e (lex _ ellipsis ∷ lex _ comma ∷ lex _ end_paren ∷ r) = give (expr_and e no_exprs, Whole) r
  args_after e _ = fail

  -- the arguments of a call, and whether the last one is passed as a whole
  unfoldable pub args_step : Lexemes → Program S (Exprs S × Rest)
  args_step (lex _ end_paren ∷ r) = give (no_exprs, Plain) r
  args_step ts = ask (read_operand false) ts (λ e r. args_after e r)

  -- behind an element: a comma and further ones, or the end
  abbrev pub elems_after : Lexemes → ValueOption S × Value S → Lexemes → Program S (Elems S)
  elems_after whole x (lex c comma ∷ ts) =
      ask read_elems ts (λ es r. give (elem (mark whole (lex c comma ∷ ts)) x.0 x.1 es) r)
  elems_after whole x ts = give (elem (mark whole ts) x.0 x.1 no_elems) ts

  -- the elements of a composite literal, up to before its closing brace
  unfoldable pub elems_step : Lexemes → Program S (Elems S)
  elems_step (lex c end_brace ∷ ts) = give no_elems (lex c end_brace ∷ ts)
  elems_step ts = ask read_elem ts (λ x r. elems_after ts x r)

  -- behind the first value of an element: a colon and its value, or nothing
  abbrev pub elem_after : Value S → Lexemes → Program S (ValueOption S × Value S)
  elem_after v (lex _ colon ∷ ts) = ask read_value ts (λ w r. give (some_value v, w) r)
  elem_after v ts = give (no_value, v) ts

  -- an element: its key, if any, and its value
  unfoldable pub elem_step : Lexemes → Program S (ValueOption S × Value S)
  elem_step ts = ask read_value ts (λ v r. elem_after v r)

  -- an element's value: an expression, or elements in braces
  unfoldable pub value_step : Lexemes → Program S (Value S)
  value_step (lex s brace ∷ ts) =
      ask read_elems ts (λ es r. after_end_brace r (λ r. give (braced (mark (lex s brace ∷ ts) r) es) r))
  value_step ts = ask (read_operand false) ts (λ e r. give (plain e) r)
